-- Arguments that are a method's are spelled as the method is.
use Rattle.methods.proofs.Names.{◌≡◌, ℕ, List, [], ◌++◌, refl, sym, ap, subst, ◌∙◌, append-nil, None, w16, to_be_bytes, AllByRecursion, flat_map, Argument, argument, IsArgument, ids_of, arguments, method_bytes, IsMethod, Method, Pieces, piece_seen, onto_arguments, given}
use Rattle.std.specs.Prelude.{Option, Some}
use Rattle.model.specs.Headers.{value_of, IsValue}
use Rattle.methods.specs.Putting.{pieces_bytes, AreSpelled}

abbrev Fit : List Argument → Type 0
Fit all = AllByRecursion IsArgument all

bytes_onto : (a : Option Argument) (others : List Argument) (bytes : List ℕ) → flat_map argument others ≡ bytes → flat_map argument (onto_arguments a others) ≡ value_of a ++ bytes
bytes_onto None others bytes e = e
bytes_onto (Some x) others bytes e = ap (λ (z : List ℕ). argument x ++ z) e

fit_onto : (a : Option Argument) (others : List Argument) → IsValue a → Fit others → Fit (onto_arguments a others)
fit_onto None others fits rest = rest
fit_onto (Some x) others fits rest = (fits, rest)

fit_first : (a : Option Argument) (others : List Argument) → Fit (onto_arguments a others) → IsValue a × Fit others
fit_first None others fit = (tt, fit)
fit_first (Some x) others fit = (fit.0, fit.1)

-- arguments, and the method whose they are
pub record Are (p : Pieces) (m : Method) : Type 0 where
  pub bytes : to_be_bytes w16 (ids_of m).class ++ to_be_bytes w16 (ids_of m).method ++ pieces_bytes p ≡ method_bytes m
  pub fits : AreSpelled p → IsMethod m
  pub back : IsMethod m → AreSpelled p

pub are : (p : Pieces) (m : Method) → given p ≡ arguments m → Are p m
are p m e = record {
  bytes = ap (λ (z : List ℕ). to_be_bytes w16 (ids_of m).class ++ to_be_bytes w16 (ids_of m).method ++ z) (sym all ∙ ap (λ (z : List Argument). flat_map argument z) e);
  fits = λ i. subst (λ (z : List Argument). Fit z) e
      (fit_onto (piece_seen p.first) _ i.first (fit_onto (piece_seen p.second) _ i.second (fit_onto (piece_seen p.third) _ i.third (fit_onto (piece_seen p.fourth) _ i.fourth (fit_onto (piece_seen p.fifth) [] i.fifth tt)))));
  back = λ i.
      let a = fit_first (piece_seen p.first) _ (subst (λ (z : List Argument). Fit z) (sym e) i) in
      let b = fit_first (piece_seen p.second) _ a.1 in
      let c = fit_first (piece_seen p.third) _ b.1 in
      let d = fit_first (piece_seen p.fourth) _ c.1 in
      let f = fit_first (piece_seen p.fifth) [] d.1 in
      record { first = a.0; second = b.0; third = c.0; fourth = d.0; fifth = f.0 };
}
  where
    all : flat_map argument (given p) ≡ pieces_bytes p
    all = bytes_onto (piece_seen p.first) _ _ (bytes_onto (piece_seen p.second) _ _ (bytes_onto (piece_seen p.third) _ _ (bytes_onto (piece_seen p.fourth) _ _ (bytes_onto (piece_seen p.fifth) [] [] refl ∙ append-nil (value_of (piece_seen p.fifth))))))
