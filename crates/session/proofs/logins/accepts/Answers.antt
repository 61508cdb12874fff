use Rattle.session.proofs.Names.{◌≡◌, ◌∙◌, sym, codes, not}
use Rattle.std.proofs.Common.{bytes_eq}
use Rattle.session.proofs.Hashing.{is_login, no_login, same_text}
use Rattle.session.proofs.logins.accepts.Goals as goal

pub returns-in-Some-clause-only : goal.returns-in-Some-clause-only
returns-in-Some-clause-only c =
    let text : c.as_slice.result.now ≡ codes "PLAIN" = c.as_slice.ensures in
    let other : c.ne.result ≡ not (bytes_eq c.args.mechanism.now c.as_slice.result.now) = c.ne.ensures in
    is_login c.args.users.now c.args.mechanism.now c.args.response.now c.in-Some.found.user.now c.in-Some.found.password.now c.is_known.result
    (same_text c.args.mechanism.now c.as_slice.result.now (sym other ∙ c.if-ne.false) ∙ text) c.in-Some.ensures c.is_known.ensures

pub returns-in-Some-clause-every : goal.returns-in-Some-clause-every
returns-in-Some-clause-every c = no_login c.args.users.now c.args.mechanism.now c.args.response.now c.in-Some.found.user.now c.in-Some.found.password.now c.is_known.result c.in-Some.ensures c.is_known.ensures
