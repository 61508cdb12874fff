-- Queues over which the round goes: which are passed, and which are nearer then.
use Rattle.broker.proofs.Names.{◌∙◌, ◌<◌, ◌≤◌, ◌+◌, ◌-◌, ℕ, Bool, true, false, if◌then◌else◌, min, inl, inr, refl, sym, subst, arith, nat_lt, lt-ltb, false≢true, leb_tells, ahead, IsPassed}
use Rattle.std.proofs.Common.{◌≡◌, ◌⊎◌}
use Rattle.std.proofs.lemmas.Bool.{ltb-true}

-- ---- places that are passed

module _ (count next at : ℕ) where
  pub ahead_behind : next ≤ at → ahead count next at ≡ at - next
  ahead_behind le = go (nat_lt at next) refl
    where
      go : (v : Bool) → nat_lt at next ≡ v → (if v then (count - next) + at else at - next) ≡ at - next
      go true f = let lt = ltb-true at next f in absurd (omega (arith, lt, le))
      go false f = refl

  pub ahead_before : at < next → ahead count next at ≡ (count - next) + at
  ahead_before lt = go (nat_lt at next) refl
    where
      go : (v : Bool) → nat_lt at next ≡ v → (if v then (count - next) + at else at - next) ≡ (count - next) + at
      go true f = refl
      go false f = absurd (false≢true (sym f ∙ lt-ltb at next lt))

-- those that are passed on the way to a place further on
pub passed_on : (count next to at : ℕ) → next ≤ to → to < count → IsPassed count next to at → (next ≤ at) × (at < to)
passed_on count next to at le lt p = elim (leb_tells next at) [
  | inl a ↦
      let behind = a.1 in
      let less = p.1 in
      let one = ahead_behind count next at behind in
      let two = ahead_behind count next to le in
      (behind, omega (arith, less, one, two, behind, le))
  | inr a ↦
      let before = a.1 in
      let less = p.1 in
      let one = ahead_before count next at (omega (arith, before)) in
      let two = ahead_behind count next to le in
      absurd (omega (arith, less, one, two, before, le, lt))
]

-- and round to one before
pub passed_round : (count next to at : ℕ) → to < next → IsPassed count next to at → (next ≤ at) ⊎ (at < to)
passed_round count next to at lt p = elim (leb_tells next at) [
  | inl a ↦ inl a.1
  | inr a ↦
      let before = a.1 in
      let less = p.1 in
      let one = ahead_before count next at (omega (arith, before)) in
      let two = ahead_before count next to lt in
      inr (omega (arith, less, one, two, before))
]

pub is_passed_on : (count next to at : ℕ) → next ≤ at → at < to → to < count → IsPassed count next to at
is_passed_on count next to at le less lt =
    let one = ahead_behind count next at le in
    let two = ahead_behind count next to (omega (arith, le, less)) in
    (omega (arith, less, lt), omega (arith, one, two, le, less))

pub is_passed_round : (count next to at : ℕ) → to < next → next ≤ count → at < count → (next ≤ at) ⊎ (at < to) → IsPassed count next to at
is_passed_round count next to at lt most within (inl le) =
    let one = ahead_behind count next at le in
    let two = ahead_before count next to lt in
    (within, omega (arith, one, two, le, most, within))
is_passed_round count next to at lt most within (inr less) =
    let one = ahead_before count next at (omega (arith, lt, less)) in
    let two = ahead_before count next to lt in
    (within, omega (arith, one, two, less))

-- a place behind the end counts as the end
pub ahead_end : (count next at : ℕ) → count ≤ next → at < count → ahead count next at ≡ at
ahead_end count next at le lt = let one = ahead_before count next at (omega (arith, le, lt)) in omega (arith, one, le)

-- behind the last that was taken, each other is nearer than before
pub ahead_nearer : (count next to at : ℕ) → to < count → at < count → (at ≡ to → ⊥) → (IsPassed count next to at → ⊥) → ahead count (to + 1) at < ahead count next at
ahead_nearer count next to at lt within far none = elim (leb_tells next count) [
  | inl a ↦ let most = a.1 in elim (leb_tells next to) [
    | inl b ↦ let le = b.1 in elim (leb_tells (to + 1) at) [
      | inl d ↦
          let gt = d.1 in
          let one = ahead_behind count (to + 1) at gt in
          let two = ahead_behind count next at (omega (arith, gt, le)) in
          omega (arith, one, two, gt, le)
      | inr d ↦
          let less = d.1 in
          elim (leb_tells next at) [
            | inl e ↦ absurd (none (is_passed_on count next to at e.1 (distinct less) lt))
            | inr e ↦
                let before = e.1 in
                let one = ahead_before count (to + 1) at (omega (arith, less)) in
                let two = ahead_before count next at (omega (arith, before)) in
                omega (arith, one, two, le, most, lt)
          ]
    ]
    | inr b ↦ let before = b.1 in elim (leb_tells (to + 1) at) [
      | inl d ↦
          let gt = d.1 in
          elim (leb_tells next at) [
            | inl e ↦ absurd (none (is_passed_round count next to at (omega (arith, before)) most within (inl e.1)))
            | inr e ↦
                let less = e.1 in
                let one = ahead_behind count (to + 1) at gt in
                let two = ahead_before count next at (omega (arith, less)) in
                omega (arith, one, two, gt, most)
          ]
      | inr d ↦ absurd (none (is_passed_round count next to at (omega (arith, before)) most within (inr (distinct d.1))))
    ]
  ]
  | inr a ↦ let over = a.1 in elim (leb_tells (to + 1) at) [
    | inl d ↦
        let gt = d.1 in
        let one = ahead_behind count (to + 1) at gt in
        let two = ahead_end count next at (omega (arith, over)) within in
        omega (arith, one, two, gt)
    | inr d ↦
        let less = distinct d.1 in
        let one = ahead_end count next at (omega (arith, over)) within in
        let two = ahead_end count next to (omega (arith, over)) lt in
        absurd (none (within, omega (arith, one, two, less)))
  ]
]
  where
    distinct : at < to + 1 → at < to
    distinct le = elim (leb_tells (at + 1) to) [
      | inl e ↦ let lt = e.1 in omega (arith, lt)
      | inr e ↦ let ge = e.1 in let same : at ≡ to = omega (arith, ge, le) in absurd (far same)
    ]

pub ahead_within : (count next at : ℕ) → at < count → ahead count next at < count
ahead_within count next at lt = elim (leb_tells next at) [
  | inl a ↦ let le = a.1 in let one = ahead_behind count next at le in omega (arith, one, le, lt)
  | inr a ↦
      let less = a.1 in
      elim (leb_tells next count) [
        | inl b ↦ let most = b.1 in let one = ahead_before count next at (omega (arith, less)) in omega (arith, one, most, less)
        | inr b ↦ let over = b.1 in let one = ahead_end count next at (omega (arith, over)) lt in omega (arith, one, lt)
      ]
]

-- nor does it matter where one begins that begins behind the end
pub passed_least : (count next turn to at : ℕ) → turn ≡ min next count → to < count → IsPassed count next to at → IsPassed count turn to at
passed_least count next turn to at is lt p = elim (leb_tells next count) [
  | inl a ↦ let most = a.1 in let same : turn ≡ next = omega (arith, is, most) in subst (λ (n : ℕ). IsPassed count n to at) (sym same) p
  | inr a ↦
      let over = a.1 in
      let same : turn ≡ count = omega (arith, is, over) in
      let less = p.1 in
      let within = p.0 in
      let one = ahead_end count next at (omega (arith, over)) within in
      let two = ahead_end count next to (omega (arith, over)) lt in
      let three = ahead_end count turn at (omega (arith, same)) within in
      let four = ahead_end count turn to (omega (arith, same)) lt in
      (within, omega (arith, less, one, two, three, four))
]
