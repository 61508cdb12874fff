-- The channels of a connection that begins to run.
use Rattle.channels.proofs.Imports.{◌≡◌, ◌-◌, ◌+◌, ◌<◌, ◌≤◌, ◌^◌, ℕ, List, [], ◌∷◌, ◌++◌, length, get_or, map, replicate, Option, Some, None, Bool, true, false, refl, sym, ap, ◌∙◌, arith, inl, inr, leb_tells, get_or-replicate, get_or_past, length-map, length-replicate, map-append, replicate_more, Text, Channel, new_channel, channels_up_to, Open, open_in}
use Rattle.std.proofs.Common.{option_map, ◌&&◌, nat_le, if◌then◌else◌}
use Rattle.std.proofs.Math.ListN as numbered
use Rattle.std.proofs.lemmas.Grind.{get_or_head, get_or_tail}

chosen : (n h : ℕ) (x y : Bool) → nat_le 1 h ≡ x → nat_le h n ≡ y → (if x && y then Some new_channel else None) ≡ channels_up_to n h
chosen n h x y e f = sym (ap (λ (b : Bool). if b && nat_le h n then Some new_channel else None) e ∙ ap (λ (b : Bool). if x && b then Some new_channel else None) f)

up_to : (n h : ℕ) → get_or (None ∷ replicate n (Some new_channel)) h None ≡ channels_up_to n h
up_to n h = elim (leb_tells 1 h) [
  | inl a ↦ elim (leb_tells h n) [
    | inl b ↦ let p = a.1 in let q = b.1 in
        get_or_tail None (replicate n (Some new_channel)) h None (omega arith) ∙ get_or-replicate n (h - 1) (Some new_channel) None (omega arith) ∙ chosen n h true true a.0 b.0
    | inr b ↦ let p = a.1 in let q = b.1 in let len = length-replicate n (Some new_channel) in
        get_or_tail None (replicate n (Some new_channel)) h None (omega arith) ∙ get_or_past (replicate n (Some new_channel)) (h - 1) None (omega arith) ∙ chosen n h true false a.0 b.0
  ]
  | inr a ↦ let p = a.1 in get_or_head None (replicate n (Some new_channel)) h None (omega arith) ∙ chosen n h false (nat_le h n) a.0 refl
]

-- channels that are seen as new ones from 1 on are those of a connection that begins
pub opened_at : (names : List Text) (channels : List (Option Open)) (n h : ℕ) → map (option_map (open_in names)) channels ≡ None ∷ replicate n (Some new_channel)
    → option_map (open_in names) (get_or channels h None) ≡ channels_up_to n h
opened_at names channels n h e = sym (numbered.get_or-map (option_map (open_in names)) channels h None) ∙ ap (λ (cs : List (Option Channel)). get_or cs h None) e ∙ up_to n h

-- one more of them
pub opened_next : (names : List Text) (old new : List (Option Open)) (ch : Open) (n : ℕ) → new ≡ old ++ Some ch ∷ [] → open_in names ch ≡ new_channel
    → map (option_map (open_in names)) old ≡ None ∷ replicate n (Some new_channel) → map (option_map (open_in names)) new ≡ None ∷ replicate (n + 1) (Some new_channel)
opened_next names old new ch n e is before =
    ap (map (option_map (open_in names))) e
    ∙ map-append (option_map (open_in names)) old (Some ch ∷ [])
    ∙ ap (λ (cs : List (Option Channel)). cs ++ Some (open_in names ch) ∷ []) before
    ∙ ap (λ (k : Channel). None ∷ replicate n (Some new_channel) ++ Some k ∷ []) is
    ∙ ap (λ (cs : List (Option Channel)). None ∷ cs) (replicate_more n (Some new_channel))

-- the number of slots
pub opened_len : (channels : List (Option Open)) (n : ℕ) → map (option_map (open_in [])) channels ≡ None ∷ replicate n (Some new_channel) → length channels ≡ n + 1
opened_len channels n e =
    let same = ap length e in
    let seen = length-map channels (option_map (open_in [])) in
    let count = length-replicate n (Some new_channel) in
    omega (arith, same, seen, count)
