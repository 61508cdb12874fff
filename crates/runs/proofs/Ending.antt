-- What is written down at the end is what was seen.
use Rattle.runs.proofs.Names.{◌≡◌, ℕ, ◌+◌, ◌<◌, zero, suc, List, [], ◌∷◌, ◌++◌, length, slice_get, refl, sym, ap, subst, ◌∙◌, arith, Config, Occurrence, World, Seen, Shown, Shows, Plays, new_world, is_over, IsSound, Arrival, new_is_consistent, taken_at, AreFinished, Records, RecordsEvents, PlaysAndRecords, IsRunOf}
use Rattle.std.proofs.Common.{Some}
use Rattle.laws.proofs.Whole.{headline_holds}

-- a world with no connection
no_records : (f : Config) → IsSound f → Records [] (new_world f) (record { connections = []; notes = [] })
no_records f sound = record { noted = refl; counted = refl; each = λ i. refl; unopened = λ i le. (refl, refl); consistent = new_is_consistent f sound }

element : (ss : List Shown) (i : ℕ) → i < length ss → (s : Shown) × (slice_get ss i ≡ Some s) × (taken_at ss i ≡ s.output)
element [] i lt = absurd (omega arith)
element (s ∷ ss) zero lt = (s, refl, refl)
element (s ∷ ss) (suc i) lt = element ss i (omega arith)

shows_at_end : (os : List Occurrence) (w : World) (s t : Seen) → Records os w s → AreFinished w s.connections t.connections → t.notes ≡ s.notes → Shows os w t
shows_at_end os w s t r f n = record {
  noted = n ∙ r.noted;
  counted = f.counted ∙ r.counted;
  each = λ i lt.
      let x = element s.connections i (subst (λ (k : ℕ). i < k) (sym r.counted) lt) in
      f.each i x.0 x.1 ∙ ap (λ (z : List ℕ). Some (record { output = z; is_over = is_over w (i + 1) })) (ap (λ (z : List ℕ). z ++ (w.wire (i + 1)).output) (sym x.2) ∙ r.each i);
}

pub is_run : (start last : World) (arrivals : List (Arrival Config)) (none s t : Seen) → IsSound start.config → start ≡ new_world start.config → none ≡ record { connections = []; notes = [] } → PlaysAndRecords start arrivals none last s
    → AreFinished last s.connections t.connections → t.notes ≡ s.notes → IsRunOf start.config arrivals last t
is_run start last arrivals none s t sound fresh empty played f n =
    let os = played.0 in
    let plays : Plays (new_world start.config) arrivals os last = subst (λ (z : World). Plays z arrivals os last) fresh played.2 in
    let tells : RecordsEvents (new_world start.config) (record { connections = []; notes = [] }) os last s =
    subst (λ (z : Seen). RecordsEvents (new_world start.config) z os last s) empty (subst (λ (z : World). RecordsEvents z none os last s) fresh played.3) in
    let shows : Shows os last t = shows_at_end os last s t (tells.keeps [] (no_records start.config sound)) f n in
    record {
      occurrences = os;
      plays = plays;
      shows = shows;
      promises = headline_holds start.config arrivals os last t sound played.1 plays shows;
    }
