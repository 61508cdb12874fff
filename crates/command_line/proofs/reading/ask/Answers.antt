use Rattle.std.proofs.lemmas.Result.{err_from_is_err_and}
use Rattle.std.proofs.Common.{◌≡◌, ◌∙◌, sym, ap, map, inr, List, option_and_then}
use Rattle.std.proofs.lemmas.Option.{none-some}
use Rattle.clap.specs.Words.{App, Text, app_of, is_simple, subcommand_of}
use Rattle.command_line.specs.CommandLine.{warren, wanted_by}
use Rattle.command_line.proofs.Faults.{simple, faultless, refused}
use Rattle.command_line.proofs.reading.ask.Goals as goal

pub returns-in_err-matches : goal.returns-in_err-matches
returns-in_err-matches g c =
    let words : List Text = map g.S.AsStr.text c.args.words.now in
    let p = err_from_is_err_and c.from_residual.result c.from_residual.ensures.1 in
    rw (p.1, p.2) (refused words (app_of c.args.program.now) c.in_err-matches.field-0.0 c.requires c.in_err-matches.ensures.kinds)

pub returns-in-Some : goal.returns-in-Some
returns-in-Some g c =
    let words : List Text = map g.S.AsStr.text c.args.words.now in
    let app : app_of c.args.program.now ≡ warren = c.requires in
    let says = c.in_ok-matches.ensures.ok.2 (ap is_simple app ∙ simple) in
    record {
      faultless = faultless words (app_of c.args.program.now) app c.in_ok-matches.ensures.kinds;
      named = sym (ap (λ (a : App). option_and_then wanted_by (subcommand_of a words)) app) ∙ ap (option_and_then wanted_by) (sym says.1) ∙ sym c.in-Some.ensures;
    }

pub returns-in_ok-error-in-None : goal.returns-in_ok-error-in-None
returns-in_ok-error-in-None g c =
    let words : List Text = map g.S.AsStr.text c.args.words.now in
    let app : app_of c.args.program.now ≡ warren = c.requires in
    let says = c.in_ok-matches.ensures.ok.2 (ap is_simple app ∙ simple) in
    inr (λ wanted asks. absurd (none-some wanted (c.in-None.ensures ∙ ap (option_and_then wanted_by) says.1 ∙ ap (λ (a : App). option_and_then wanted_by (subcommand_of a words)) app ∙ asks.named)))
