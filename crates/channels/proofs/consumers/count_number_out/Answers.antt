use Rattle.channels.proofs.Imports.{◌≡◌, ◌∙◌, ◌-◌, ℕ, refl, sym, ap, get_or, set, List, uncounted, CountedConsumer}
use Rattle.model.specs.declared.messages.Taker.TheVariants as taker
use Rattle.std.proofs.lemmas.List.{get_or_default}
use Rattle.channels.proofs.Halving.{changed_once, changed_none, out_other, out_here}
use Rattle.channels.proofs.consumers.count_number_out.Goals as goal

pub returns-in-Some : goal.returns-in-Some
returns-in-Some c =
    let at = c.in-Some.ensures.some in
    let xs : List CountedConsumer = c.args.consumers.now in
    let place : ℕ = c.in-Some.place in
    let d : CountedConsumer = c.index-consumers-place-in-Some.result in
    let held : c.saturating_sub.result ≡ (get_or xs place d).held - 1 =
    c.saturating_sub.ensures ∙ ap (λ (s : CountedConsumer). s.held - 1) (get_or_default xs place c.index-consumers-place.result d at.within) in
    ap (λ (h : ℕ). set xs place (record (get_or xs place d) { held = h })) held
    ∙ ap (set xs place) (sym (out_here c.args.number (get_or xs place d) (at.numbered d)))
    ∙ sym (changed_once (uncounted (taker.Consumer c.args.number)) c.args.number c.requires.0 xs place d (out_other c.args.number) c.requires.1 at.within (at.numbered d))

pub returns-in_default : goal.returns-in_default
returns-in_default c = sym (changed_none (uncounted (taker.Consumer c.args.number)) c.args.number c.args.consumers.now (out_other c.args.number) (c.in_default.ensures.none refl))
