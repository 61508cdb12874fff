-- Several members are removed at once.
use Rattle.std.proofs.Common.{◌≡◌, ◌<◌, ◌≤◌, ◌+◌, ◌++◌, ◌∙◌, ℕ, List, [], ◌∷◌, Bool, length, take, drop, filter, count_by, refl, sym, ap, arith}
use Rattle.std.proofs.lemmas.List.{length-append, length-take-le, take-append-drop}
use Rattle.std.proofs.lemmas.List.Elements.{filter-append}
use Rattle.std.proofs.lemmas.List.Sums.{length-filter}
use Rattle.waiting_lines.specs.Order.{Member, all_awake, items_of, members_from, order_from, turned}
use Rattle.waiting_lines.proofs.Standing.{members_length, members_parts}
use Rattle.waiting_lines.proofs.Turned.{turned_at}

module _ {X : Type 0} where
  -- where each bit is 1, all are awake
  members_up : (from : ℕ) (bit : ℕ → ℕ) (xs : List X) → ((k : ℕ) → k < length xs → bit (from + k) ≡ 1) → members_from from bit xs ≡ all_awake xs
  members_up from bit [] up = refl
  members_up from bit (x ∷ xs) up =
      let first : bit from ≡ 1 = ap bit (omega arith) ∙ up 0 (omega arith) in
      let rest = members_up (from + 1) bit xs (λ k lt. ap bit (omega arith) ∙ up (k + 1) (omega (arith, lt))) in
      cc (first, rest)

  awake_append : (xs ys : List X) → all_awake (xs ++ ys) ≡ all_awake xs ++ all_awake ys
  awake_append [] ys = refl
  awake_append (x ∷ xs) ys = let rest = awake_append xs ys in cc (rest)

  awake_length : (xs : List X) → length (all_awake xs) ≡ length xs
  awake_length [] = refl
  awake_length (x ∷ xs) = let rest = awake_length xs in omega (arith, rest)

  items_members : (from : ℕ) (bit : ℕ → ℕ) (xs : List X) → items_of (members_from from bit xs) ≡ xs
  items_members from bit [] = refl
  items_members from bit (x ∷ xs) = ap (λ (ys : List X). x ∷ ys) (items_members (from + 1) bit xs)

  pub items_append : (ms ns : List (Member X)) → items_of (ms ++ ns) ≡ items_of ms ++ items_of ns
  items_append [] ns = refl
  items_append (m ∷ ms) ns = ap (λ (ys : List X). m.item ∷ ys) (items_append ms ns)

  pub items_awake : (xs : List X) → items_of (all_awake xs) ≡ xs
  items_awake [] = refl
  items_awake (x ∷ xs) = ap (λ (ys : List X). x ∷ ys) (items_awake xs)

  -- the items go round as their members do
  items_order : (f : ℕ → ℕ) (xs ys : List X) → items_of (order_from (length xs) f (xs ++ ys)) ≡ ys ++ xs
  items_order f xs ys =
      let a = members_from 0 f xs in
      let b = members_from (length xs) f ys in
      let one = items_members 0 f xs in
      let two = items_members (length xs) f ys in
      ap (λ (ms : List (Member X)). items_of (turned (length xs) ms)) (members_parts f xs ys) ∙ ap (λ (ms : List (Member X)). items_of ms) (turned_at a b (length xs) (members_length 0 f xs))
      ∙ items_append b a ∙ cc (one, two)

  swept_parts : (keep : X → Bool) (now : ℕ) (f g : ℕ → ℕ) (xs ys zs : List X) → zs ≡ filter keep (xs ++ ys) → now ≡ count_by keep xs
      → ((k : ℕ) → k < length zs → g k ≡ 1) → order_from now g zs ≡ all_awake (filter keep (items_of (order_from (length xs) f (xs ++ ys))))
  swept_parts keep now f g xs ys zs is count up =
      let a = filter keep xs in
      let b = filter keep ys in
      let both : zs ≡ a ++ b = is ∙ filter-append keep xs ys in
      let size : length (all_awake a) ≡ now = awake_length a ∙ length-filter keep xs ∙ sym count in
      ap (turned now) (members_up 0 g zs (λ k lt. ap g (omega arith) ∙ up k lt) ∙ ap (λ (ws : List X). all_awake ws) both ∙ awake_append a b) ∙ turned_at (all_awake a) (all_awake b) now size
      ∙ sym (awake_append b a) ∙ ap (λ (ws : List X). all_awake ws) (sym (filter-append keep ys xs)) ∙ ap (λ (ws : List X). all_awake (filter keep ws)) (sym (items_order f xs ys))

  pub swept : (keep : X → Bool) (next now : ℕ) (f g : ℕ → ℕ) (xs zs : List X) → next ≤ length xs → zs ≡ filter keep xs → now ≡ count_by keep (take next xs)
      → ((k : ℕ) → k < length zs → g k ≡ 1) → order_from now g zs ≡ all_awake (filter keep (items_of (order_from next f xs)))
  swept keep next now f g xs zs most is count up =
      let size = length-take-le next xs most in
      let parts : take next xs ++ drop next xs ≡ xs = take-append-drop next xs in
      swept_parts keep now f g (take next xs) (drop next xs) zs (is ∙ ap (filter keep) (sym parts)) count up
      ∙ ap (λ (n : ℕ). all_awake (filter keep (items_of (order_from n f (take next xs ++ drop next xs))))) size
      ∙ ap (λ (ws : List X). all_awake (filter keep (items_of (order_from next f ws)))) parts

  -- no more stay in front than stay at all
  pub fewer_stay : (keep : X → Bool) (next : ℕ) (xs : List X) → count_by keep (take next xs) ≤ length (filter keep xs)
  fewer_stay keep next xs =
      let whole = ap (λ (ws : List X). length (filter keep ws)) (take-append-drop next xs) in
      let parts = ap (λ (ws : List X). length ws) (filter-append keep (take next xs) (drop next xs)) in
      let sum = length-append (filter keep (take next xs)) (filter keep (drop next xs)) in
      let front = length-filter keep (take next xs) in
      omega (arith, whole, parts, sum, front)
