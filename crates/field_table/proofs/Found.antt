-- Fields by their names, one pair after another.
use Rattle.field_table.proofs.Names.{◌≡◌, ℕ, ◌<◌, ◌^◌, Bool, true, false, List, [], ◌∷◌, ◌++◌, length, refl, sym, ap, subst, ◌∙◌, inl, inr, ◌⊎◌, ◌||◌, MatchBool, false≢true, Value, Pairs, no_pairs, pair, letter, content, pairs_bytes, IsFirstPair, HasNoPair, SpellsPairs}
use Rattle.std.proofs.lemmas.Slice.Eq.{bytes_eq-Decides}
use Rattle.std.specs.Str.{bytes_eq}
use Rattle.model.specs.Words.{Text}
use Rattle.model.specs.Deaths.{IsFieldOf}
use Rattle.field_table.specs.Lookups.{HasField}
use Rattle.field_table.proofs.Firsts.{pairs_behind, no_pairs_left}

-- it was found before, or stands among these
abbrev pub Has : Bool → Pairs → Text → Type 0
Has found ps name = (found ≡ true) ⊎ IsFieldOf ps name

-- the whole is pairs, and tells of the field where what is left does, or where it was found
pub record Onto (found : Bool) (name : Text) (whole : List ℕ) (ps : Pairs) : Type 0 where
  pub pairs : Pairs
  pub spelled : SpellsPairs 15 whole pairs
  pub tells : Has found ps name → IsFieldOf pairs name

-- what is left is pairs, and tells of the field where the whole does and it was not found
pub record Back (found : Bool) (name : Text) (rest : List ℕ) (qs : Pairs) : Type 0 where
  pub pairs : Pairs
  pub spelled : SpellsPairs 15 rest pairs
  pub tells : IsFieldOf qs name → Has found pairs name

-- what was seen so far
pub record Seen (found : Bool) (name : Text) (whole rest : List ℕ) : Type 0 where
  pub onto : (ps : Pairs) → SpellsPairs 15 rest ps → Onto found name whole ps
  pub back : (qs : Pairs) → SpellsPairs 15 whole qs → Back found name rest qs

-- one name more was looked at
has_onto : (found : Bool) (name other : Text) (v : Value) (ps : Pairs) → Has (found || bytes_eq other name) ps name → Has found (pair other v ps) name
has_onto found name other v ps (inl e) = go found (bytes_eq other name) refl e
  where
    go : (f b : Bool) → bytes_eq other name ≡ b → (f || b) ≡ true → Has f (pair other v ps) name
    go true b is h = inl refl
    go false b is h = inr (inl ((bytes_eq-Decides other name).0 (is ∙ h)))
has_onto found name other v ps (inr f) = inr (inr f)

has_back : (found : Bool) (name other : Text) (v : Value) (ps : Pairs) → Has found (pair other v ps) name → Has (found || bytes_eq other name) ps name
has_back found name other v ps (inl e) = inl (ap (λ (b : Bool). b || bytes_eq other name) e)
has_back found name other v ps (inr (inl e)) = inl (go found ((bytes_eq-Decides other name).1 e))
  where
    go : (f : Bool) → bytes_eq other name ≡ true → (f || bytes_eq other name) ≡ true
    go true h = refl
    go false h = h
has_back found name other v ps (inr (inr f)) = inr f

first_back : (found : Bool) (name whole rest other after : List ℕ) (v : Value) (qs ps : Pairs) → IsFirstPair 15 rest other v after → SpellsPairs 15 rest ps → (IsFieldOf qs name → Has found ps name) → Back (found || bytes_eq other name) name after qs
first_back found name whole rest other after v qs no_pairs f s tells = absurd (let e : (length other ∷ other) ++ (letter v ∷ content v ++ after) ≡ [] = sym f.parts ∙ s.parts in cc)
first_back found name whole rest other after v qs (pair n w ps) f s tells =
    let b = pairs_behind 15 rest other v after n w ps f s in
    record { pairs = ps; spelled = b.1; tells = λ h. has_back found name other w ps (subst (λ (m : Text). Has found (pair m w ps) name) (sym b.0) (tells h)) }

pub seen_next : (found : Bool) (name whole rest other after : List ℕ) (v : Value) → IsFirstPair 15 rest other v after → Seen found name whole rest → Seen (found || bytes_eq other name) name whole after
seen_next found name whole rest other after v f s = record {
  onto = λ ps p.
      let o = s.onto (pair other v ps) (record { fits = (f.short, f.fits, p.fits); parts = f.parts ∙ ap (λ (z : List ℕ). (length other ∷ other) ++ (letter v ∷ content v ++ z)) p.parts }) in
      record { pairs = o.pairs; spelled = o.spelled; tells = λ t. o.tells (has_onto found name other v ps t) };
  back = λ qs p. let b = s.back qs p in first_back found name whole rest other after v qs b.pairs f b.spelled b.tells;
}

-- all was seen
pub seen_found : (name whole : List ℕ) → length whole < 2 ^ 32 → Seen true name whole [] → HasField name whole
seen_found name whole size s =
    let o = s.onto no_pairs (record { fits = tt; parts = refl }) in
    record {
      pairs = o.pairs;
      fits = record { size = subst (λ (bytes : List ℕ). length bytes < 2 ^ 32) o.spelled.parts size; fits = o.spelled.fits };
      spelled = o.spelled.parts;
      field = o.tells (inl refl);
    }

no_field : (ps : Pairs) (name : Text) → SpellsPairs 15 [] ps → IsFieldOf ps name → ⊥
no_field no_pairs name s f = f
no_field (pair n v ps) name s f = absurd (let e : [] ≡ (length n ∷ n) ++ (letter v ∷ content v ++ pairs_bytes ps) = s.parts in cc)

spells : (name whole : List ℕ) (h : HasField name whole) → SpellsPairs 15 whole h.pairs
spells name whole h = record { fits = h.fits.fits; parts = h.spelled }

pub seen_all : (name whole : List ℕ) → Seen false name whole [] → HasField name whole → ⊥
seen_all name whole s h =
    let b = s.back h.pairs (spells name whole h) in
    elim (b.tells h.field) [ inl e ↦ false≢true e | inr f ↦ no_field b.pairs name b.spelled f ]

-- what is left begins with no pair
pub seen_bad : (found : Bool) (name whole rest : List ℕ) → HasNoPair 15 rest → (rest ≡ [] → ⊥) → Seen found name whole rest → HasField name whole → ⊥
seen_bad found name whole rest none some s h = let b = s.back h.pairs (spells name whole h) in no_pairs_left 15 rest none some (b.pairs, b.spelled)

-- what was found is what stands there
pub seen_end : (found : Bool) (name whole rest : List ℕ) → rest ≡ [] → length whole < 2 ^ 32 → Seen found name whole rest → MatchBool found (HasField name whole) (HasField name whole → ⊥)
seen_end true name whole rest nil size s = seen_found name whole size (subst (Seen true name whole) nil s)
seen_end false name whole rest nil size s = seen_all name whole (subst (Seen false name whole) nil s)
