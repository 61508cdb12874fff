-- The ids and the arguments that are put are the method's.
use Rattle.methods.proofs.Names.{◌≡◌, ◌++◌, ◌∙◌, ℕ, List, length, append_assoc, ap, arith, w16, to_be_bytes, ids_of, Method}
use Rattle.methods.proofs.Rows.{are}
use Rattle.methods.proofs.writing.put_method.Goals as goal

pub put_pieces-requires-clause-fits : goal.put_pieces-requires-clause-fits
put_pieces-requires-clause-fits c = (are c.arguments_of.result c.args.m.now c.arguments_of.ensures).back c.requires.spelled

pub put_pieces-requires-clause-room : goal.put_pieces-requires-clause-room
put_pieces-requires-clause-room c =
    let len = ap (λ (z : List ℕ). length z) (are c.arguments_of.result c.args.m.now c.arguments_of.ensures).bytes in
    omega (arith, len)

put : (old one new head ids ps bytes : List ℕ) → one ≡ old ++ head → new ≡ one ++ ps → head ≡ ids → ids ++ ps ≡ bytes → new ≡ old ++ bytes
put old one new head ids ps bytes e f h all =
    f ∙ ap (λ (z : List ℕ). z ++ ps) (e ∙ ap (λ (z : List ℕ). old ++ z) h) ∙ append_assoc old ids ps ∙ ap (λ (z : List ℕ). old ++ z) all

pub returns-clause-items : goal.returns-clause-items
returns-clause-items c =
    put _ _ _ _ (head c.args.m.now) _ _ c.put_bytes.ensures.items c.put_pieces.ensures.items c.head_of.ensures
    (are c.arguments_of.result c.args.m.now c.arguments_of.ensures).bytes
  where
    head : Method → List ℕ
    head m = to_be_bytes w16 (ids_of m).class ++ to_be_bytes w16 (ids_of m).method

pub returns-clause-len : goal.returns-clause-len
returns-clause-len c =
    let len = ap (λ (z : List ℕ). length z) (are c.arguments_of.result c.args.m.now c.arguments_of.ensures).bytes in
    omega (arith, len)
