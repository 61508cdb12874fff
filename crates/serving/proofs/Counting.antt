-- What a wire counts of a socket is what arrived for its connection.
use Rattle.serving.proofs.Names.{◌≡◌, ◌≢◌, ◌+◌, ◌⊎◌, inl, inr, ℕ, List, [], ◌∷◌, ◌++◌, Bool, true, false, Option, Some, None, length, refl, sym, ap, subst, ◌∙◌, append_assoc, append-nil, flat_map, filter_map, arith, ◌==◌, if◌then◌else◌, sum_by, eq-eqb, ne_eqb, false≢true, cases_eq, none-some, same_Some, filter_map-append, sum_by-append, IsIn, Occurrence, in_front, in_back, Call, Accepted, Not_accepted, Accept_failed, Got, Nothing_got, Read_ended, Read_failed, Took, Nothing_taken, Write_failed, Closed, Welcomed, Farewell, Rested, Totals, no_bytes, with_got, with_taken, total_after, totals_after, Traffic, AddsCalls, Served, At, Deed, Enters, Leaves, Stays, Met, Turned_away, Met_no_one, Heard, Heard_partly, Heard_nothing, Heard_end, Gave, Gave_partly, Gave_nothing, Gave_up, Pumped_nothing, Pump_refused, Closed_gone, Paused, Reload_decided, Reload_undecided, calls, Table, DoesDeed, Story, got_of, count_of, met_by, all_met, AreCounted, Peer, Lacks}
use Rattle.serving.specs.Story.{Pumped}
use Rattle.serving.proofs.Onward.{in_either}
use Rattle.serving.proofs.Pairs.{Knows, knows_none, goes}
use Rattle.serving.proofs.Joining.{are_joined}

-- ---- sums over calls

-- how many bytes reads of s gave
abbrev got_in : ℕ → List Call → ℕ
got_in s cs = sum_by length (filter_map (got_of s) cs)

-- how many bytes writes to s took
abbrev taken_in : ℕ → List Call → ℕ
taken_in s cs = sum_by (λ (n : ℕ). n) (filter_map (count_of s) cs)

got-append : (s : ℕ) (xs ys : List Call) → got_in s (xs ++ ys) ≡ got_in s xs + got_in s ys
got-append s xs ys = ap (sum_by length) (filter_map-append (got_of s) xs ys) ∙ sum_by-append length (filter_map (got_of s) xs) (filter_map (got_of s) ys)

taken-append : (s : ℕ) (xs ys : List Call) → taken_in s (xs ++ ys) ≡ taken_in s xs + taken_in s ys
taken-append s xs ys = ap (sum_by (λ (n : ℕ). n)) (filter_map-append (count_of s) xs ys) ∙ sum_by-append (λ (n : ℕ). n) (filter_map (count_of s) xs) (filter_map (count_of s) ys)

-- the same of one call, by whether it is of the socket
abbrev got_if : Bool → List ℕ → ℕ
got_if x bytes = sum_by length (filter_map (λ (o : Option (List ℕ)). o) ((if x then Some bytes else None) ∷ []))

abbrev taken_if : Bool → ℕ → ℕ
taken_if x n = sum_by (λ (m : ℕ). m) (filter_map (λ (o : Option ℕ). o) ((if x then Some n else None) ∷ []))

-- ---- totals

-- totals that were told before have what these calls gave and took more
record AddsUp (s : ℕ) (o : Option Totals) (cs : List Call) (t : Totals) : Type 0 where
  from : Totals
  was : o ≡ Some from
  got : t.got ≡ from.got + got_in s cs
  taken : t.taken ≡ from.taken + taken_in s cs

add_none : (s : ℕ) (o : Option Totals) (t : Totals) (cs : List Call) → got_in s cs ≡ 0 → taken_in s cs ≡ 0 → o ≡ Some t → AddsUp s o cs t
add_none s o t cs g k e = record { from = t; was = e; got = omega (arith, g); taken = omega (arith, k) }

add_got : (x : Bool) (bytes : List ℕ) (o : Option Totals) (t : Totals) → (if x then with_got (length bytes) o else o) ≡ Some t → (u : Totals) × (o ≡ Some u) × (t.got ≡ u.got + got_if x bytes) × (t.taken ≡ u.taken + 0)
add_got true bytes None t e = absurd (none-some t e)
add_got true bytes (Some u) t e =
    let same = sym (same_Some _ _ e) in
    let g : got_if true bytes ≡ length bytes = omega arith in
    let h : t.got ≡ u.got + length bytes = ap (λ (z : Totals). z.got) same in
    let k : t.taken ≡ u.taken = ap (λ (z : Totals). z.taken) same in
    (u, refl, omega (arith, g, h), omega (arith, k))
add_got false bytes o t e = (t, e, omega arith, omega arith)

add_taken : (x : Bool) (n : ℕ) (o : Option Totals) (t : Totals) → (if x then with_taken n o else o) ≡ Some t → (u : Totals) × (o ≡ Some u) × (t.got ≡ u.got + 0) × (t.taken ≡ u.taken + taken_if x n)
add_taken true n None t e = absurd (none-some t e)
add_taken true n (Some u) t e =
    let same = sym (same_Some _ _ e) in
    let g : taken_if true n ≡ n = omega arith in
    let h : t.got ≡ u.got = ap (λ (z : Totals). z.got) same in
    let k : t.taken ≡ u.taken + n = ap (λ (z : Totals). z.taken) same in
    (u, refl, omega (arith, h), omega (arith, g, k))
add_taken false n o t e = (t, e, omega arith, omega arith)

-- one call, which accepts no socket of this name
adds_one : (s : ℕ) (c : Call) → (Accepted s ≡ c → ⊥) → (o : Option Totals) (t : Totals) → total_after s o c ≡ Some t → AddsUp s o (c ∷ []) t
adds_one s (Accepted r) ne o t e = go (cases_eq r s)
  where
    go : (r ≡ s) ⊎ (r ≢ s) → AddsUp s o (Accepted r ∷ []) t
    go (inl is) = absurd (ne (ap Accepted (sym is)))
    go (inr not) = add_none s o t (Accepted r ∷ []) refl refl (subst (λ (x : Bool). (if x then Some no_bytes else o) ≡ Some t) (ne_eqb r s not) e)
adds_one s (Got r room bytes) ne o t e = let a = add_got (r == s) bytes o t e in record { from = a.0; was = a.1; got = a.2; taken = a.3 }
adds_one s (Took r offered taken) ne o t e = let a = add_taken (r == s) (length taken) o t e in record { from = a.0; was = a.1; got = a.2; taken = a.3 }
adds_one s Not_accepted ne o t e = add_none s o t (Not_accepted ∷ []) refl refl e
adds_one s Accept_failed ne o t e = add_none s o t (Accept_failed ∷ []) refl refl e
adds_one s (Nothing_got r room) ne o t e = add_none s o t (Nothing_got r room ∷ []) refl refl e
adds_one s (Read_ended r room) ne o t e = add_none s o t (Read_ended r room ∷ []) refl refl e
adds_one s (Read_failed r room) ne o t e = add_none s o t (Read_failed r room ∷ []) refl refl e
adds_one s (Nothing_taken r offered) ne o t e = add_none s o t (Nothing_taken r offered ∷ []) refl refl e
adds_one s (Write_failed r offered) ne o t e = add_none s o t (Write_failed r offered ∷ []) refl refl e
adds_one s (Closed r) ne o t e = add_none s o t (Closed r ∷ []) refl refl e
adds_one s (Welcomed r) ne o t e = add_none s o t (Welcomed r ∷ []) refl refl e
adds_one s (Farewell r) ne o t e = add_none s o t (Farewell r ∷ []) refl refl e
adds_one s Rested ne o t e = add_none s o t (Rested ∷ []) refl refl e

add_sums : (a b c d e f : ℕ) → a ≡ b + c → b ≡ d + e → f ≡ e + c → a ≡ d + f
add_sums a b c d e f x y z = omega (arith, x, y, z)

adds_up : (s : ℕ) (cs : List Call) → (IsIn (Accepted s) cs → ⊥) → (o : Option Totals) (t : Totals) → totals_after s o cs ≡ Some t → AddsUp s o cs t
adds_up s [] ne o t e = add_none s o t [] refl refl e
adds_up s (c ∷ cs) ne o t e =
    let more = adds_up s cs (λ i. ne (inr i)) (total_after s o c) t e in
    let one = adds_one s c (λ i. ne (inl i)) o more.from more.was in
    record {
      from = one.from;
      was = one.was;
      got = add_sums t.got more.from.got (got_in s cs) one.from.got (got_in s (c ∷ [])) (got_in s (c ∷ cs)) more.got one.got (got-append s (c ∷ []) cs);
      taken = add_sums t.taken more.from.taken (taken_in s cs) one.from.taken (taken_in s (c ∷ [])) (taken_in s (c ∷ cs)) more.taken one.taken (taken-append s (c ∷ []) cs);
    }

-- ---- along a story

-- nothing was read from the socket and nothing written to it
abbrev pub NoBytes : ℕ → List Call → Type 0
NoBytes s cs = (got_in s cs ≡ 0) × (taken_in s cs ≡ 0)

-- after all calls so far
record Counted (s : ℕ) (cs : List Call) (traffic : Traffic) : Type 0 where
  given : IsIn (Accepted s) cs → traffic.is_given s ≡ true
  none : traffic.is_given s ≡ false → NoBytes s cs
  sums : IsIn (Accepted s) cs → (t : Totals) → traffic.totals s ≡ Some t → (t.got ≡ got_in s cs) × (t.taken ≡ taken_in s cs)

-- a socket of this name is new, and nothing is read from it or written to it yet
record Comes (s : ℕ) (more : List Call) (old : Traffic) : Type 0 where
  fresh : old.is_given s ≡ false
  zero : (t : Totals) → totals_after s (old.totals s) more ≡ Some t → (t.got ≡ 0) × (t.taken ≡ 0)

no_bytes_more : (s : ℕ) (cs more : List Call) → NoBytes s cs → NoBytes s more → NoBytes s (cs ++ more)
no_bytes_more s cs more a b =
    let g = got-append s cs more in
    let k = taken-append s cs more in
    let a0 = a.0 in let a1 = a.1 in let b0 = b.0 in let b1 = b.1 in
    (omega (arith, g, a0, b0), omega (arith, k, a1, b1))

zero_sums : (a b : ℕ) → a ≡ 0 → b ≡ 0 → a ≡ b
zero_sums a b x y = x ∙ sym y

still_false : (x y : Bool) → (x ≡ true → y ≡ true) → y ≡ false → x ≡ false
still_false true y f e = absurd (false≢true (sym e ∙ f refl))
still_false false y f e = refl

counted_on : (s : ℕ) (cs more : List Call) (old new : Traffic) → AddsCalls old more new → (old.is_given s ≡ false → NoBytes s more) → (IsIn (Accepted s) more → Comes s more old) → Counted s cs old → Counted s (cs ++ more) new
counted_on s cs more old new tells quiet comes k = record {
  given = λ i. given (in_either (Accepted s) cs more i);
  none = λ e. let was = still_false (old.is_given s) (new.is_given s) (tells.kept s) e in no_bytes_more s cs more (k.none was) (quiet was);
  sums = λ i t e. sums (in_either (Accepted s) cs more i) t e;
}
  where
    given : IsIn (Accepted s) cs ⊎ IsIn (Accepted s) more → new.is_given s ≡ true
    given (inl i) = tells.kept s (k.given i)
    given (inr i) = tells.given s i

    sums : IsIn (Accepted s) cs ⊎ IsIn (Accepted s) more → (t : Totals) → new.totals s ≡ Some t → (t.got ≡ got_in s (cs ++ more)) × (t.taken ≡ taken_in s (cs ++ more))
    sums (inl i) t e =
        let adds = adds_up s more (λ j. false≢true (sym (comes j).fresh ∙ k.given i)) (old.totals s) t (tells.totals s t e) in
        let before = k.sums i adds.from adds.was in
        (adds.got ∙ ap (λ (n : ℕ). n + got_in s more) before.0 ∙ sym (got-append s cs more), adds.taken ∙ ap (λ (n : ℕ). n + taken_in s more) before.1 ∙ sym (taken-append s cs more))
    sums (inr i) t e =
        let new_one = comes i in
        let sum = no_bytes_more s cs more (k.none new_one.fresh) (quiet new_one.fresh) in
        let zero = new_one.zero t (tells.totals s t e) in
        (zero_sums t.got _ zero.0 sum.0, zero_sums t.taken _ zero.1 sum.1)

-- ---- each deed

abbrev socket_of : Call → ℕ
socket_of (Accepted r) = r
socket_of call = 0

accepted_is : (s r : ℕ) → Accepted s ≡ Accepted r → s ≡ r
accepted_is s r e = ap socket_of e

accepted_total : (s r : ℕ) (o : Option Totals) (t : Totals) → s ≡ r → total_after s o (Accepted r) ≡ Some t → (t.got ≡ 0) × (t.taken ≡ 0)
accepted_total s r o t is e =
    let same : Some no_bytes ≡ Some t = subst (λ (x : Bool). (if x then Some no_bytes else o) ≡ Some t) (eq-eqb r s (sym is)) e in
    let at = sym (same_Some _ _ same) in
    (ap (λ (z : Totals). z.got) at, ap (λ (z : Totals). z.taken) at)

comes_met : (s r : ℕ) (old : Traffic) → old.is_given r ≡ false → IsIn (Accepted s) (Accepted r ∷ []) → Comes s (Accepted r ∷ []) old
comes_met s r old fresh (inl e) = let is = accepted_is s r e in record { fresh = subst (λ (n : ℕ). old.is_given n ≡ false) (sym is) fresh; zero = λ t f. accepted_total s r (old.totals s) t is f }
comes_met s r old fresh (inr i) = absurd i

comes_away : (s r : ℕ) (old : Traffic) → old.is_given r ≡ false → IsIn (Accepted s) (Accepted r ∷ Closed r ∷ []) → Comes s (Accepted r ∷ Closed r ∷ []) old
comes_away s r old fresh (inl e) = let is = accepted_is s r e in record { fresh = subst (λ (n : ℕ). old.is_given n ≡ false) (sym is) fresh; zero = λ t f. accepted_total s r (old.totals s) t is f }
comes_away s r old fresh (inr (inl e)) = absurd (cc e)
comes_away s r old fresh (inr (inr i)) = absurd i

-- one whose name is given is another than one whose name is not
distinct : (s r : ℕ) (old : Traffic) → old.is_given r ≡ true → old.is_given s ≡ false → (r == s) ≡ false
distinct s r old given not = ne_eqb r s (λ e. false≢true (sym not ∙ subst (λ (n : ℕ). old.is_given n ≡ true) e given))

not_one : (s : ℕ) (c : Call) → (Accepted s ≡ c → ⊥) → IsIn (Accepted s) (c ∷ []) → ⊥
not_one s c f (inl e) = f e
not_one s c f (inr i) = absurd i

not_two : (s : ℕ) (c d : Call) → (Accepted s ≡ c → ⊥) → (Accepted s ≡ d → ⊥) → IsIn (Accepted s) (c ∷ d ∷ []) → ⊥
not_two s c d f g (inl e) = f e
not_two s c d f g (inr i) = not_one s d g i

count_deed : {L : Lacks} (s : ℕ) (cs : List Call) (v w : Served) (d : Deed) (os : List Occurrence) → DoesDeed L v d os w → ((i : ℕ) (p : Peer) → At v.peers i p → v.traffic.is_given p.socket ≡ true) → Counted s cs v.traffic → Counted s (cs ++ calls d) w.traffic
count_deed {L = L} s cs v w d os does names k = go d does.table does.traffic
  where
    plain : (more : List Call) → NoBytes s more → (IsIn (Accepted s) more → ⊥) → AddsCalls v.traffic more w.traffic → Counted s (cs ++ more) w.traffic
    plain more none not t = counted_on s cs more v.traffic w.traffic t (λ e. none) (λ i. absurd (not i)) k

    -- the socket of a peer in a slot has another name than one that is not given
    named : (i : ℕ) (p : Peer) (more : List Call) → At v.peers i p → ((p.socket == s) ≡ false → NoBytes s more) → (IsIn (Accepted s) more → ⊥) → AddsCalls v.traffic more w.traffic → Counted s (cs ++ more) w.traffic
    named i p more at none not t = counted_on s cs more v.traffic w.traffic t (λ e. none (distinct s p.socket v.traffic (names i p at) e)) (λ j. absurd (not j)) k

    go : (d : Deed) → Table L v d w.peers → AddsCalls v.traffic (calls d) w.traffic → Counted s (cs ++ calls d) w.traffic
    go (Met i p) t traffic = counted_on s cs _ v.traffic w.traffic traffic (λ e. (refl, refl)) (comes_met s p.socket v.traffic t.2) k
    go (Turned_away r o) t traffic = counted_on s cs _ v.traffic w.traffic traffic (λ e. (refl, refl)) (comes_away s r v.traffic t.2) k
    go (Met_no_one true) t traffic = plain _ (refl, refl) (not_one s Accept_failed (λ e. absurd (cc e))) traffic
    go (Met_no_one false) t traffic = plain _ (refl, refl) (not_one s Not_accepted (λ e. absurd (cc e))) traffic
    go (Heard i p room bytes Enters) t traffic = named i p (Got p.socket _ bytes ∷ Welcomed p.socket ∷ []) t.1.0 (λ e. (ap (λ (x : Bool). got_if x bytes) e, refl)) (not_two s _ _ (λ e. absurd (cc e)) (λ e. absurd (cc e))) traffic
    go (Heard i p room bytes Leaves) t traffic = named i p (Got p.socket _ bytes ∷ Farewell p.socket ∷ []) t.1.0 (λ e. (ap (λ (x : Bool). got_if x bytes) e, refl)) (not_two s _ _ (λ e. absurd (cc e)) (λ e. absurd (cc e))) traffic
    go (Heard i p room bytes Stays) t traffic = named i p (Got p.socket _ bytes ∷ []) t.1.0 (λ e. (ap (λ (x : Bool). got_if x bytes) e, refl)) (not_one s _ (λ e. absurd (cc e))) traffic
    go (Heard_partly i p room bytes) t traffic = named i p (Got p.socket _ bytes ∷ Closed p.socket ∷ []) t.1.0 (λ e. (ap (λ (x : Bool). got_if x bytes) e, refl)) (not_two s _ _ (λ e. absurd (cc e)) (λ e. absurd (cc e))) traffic
    go (Heard_nothing i p room) t traffic = plain _ (refl, refl) (not_one s _ (λ e. absurd (cc e))) traffic
    go (Heard_end i p room true) t traffic = plain _ (refl, refl) (not_two s _ _ (λ e. absurd (cc e)) (λ e. absurd (cc e))) traffic
    go (Heard_end i p room false) t traffic = plain _ (refl, refl) (not_two s _ _ (λ e. absurd (cc e)) (λ e. absurd (cc e))) traffic
    go (Gave i p offered taken Enters) t traffic = named i p (Took p.socket offered taken ∷ Welcomed p.socket ∷ []) t.2.0 (λ e. (refl, ap (λ (x : Bool). taken_if x (length taken)) e)) (not_two s _ _ (λ e. absurd (cc e)) (λ e. absurd (cc e))) traffic
    go (Gave i p offered taken Leaves) t traffic = named i p (Took p.socket offered taken ∷ Farewell p.socket ∷ []) t.2.0 (λ e. (refl, ap (λ (x : Bool). taken_if x (length taken)) e)) (not_two s _ _ (λ e. absurd (cc e)) (λ e. absurd (cc e))) traffic
    go (Gave i p offered taken Stays) t traffic = named i p (Took p.socket offered taken ∷ []) t.2.0 (λ e. (refl, ap (λ (x : Bool). taken_if x (length taken)) e)) (not_one s _ (λ e. absurd (cc e))) traffic
    go (Gave_partly i p offered taken) t traffic = named i p (Took p.socket offered taken ∷ Closed p.socket ∷ []) t.2.0 (λ e. (refl, ap (λ (x : Bool). taken_if x (length taken)) e)) (not_two s _ _ (λ e. absurd (cc e)) (λ e. absurd (cc e))) traffic
    go (Gave_nothing i p offered) t traffic = plain _ (refl, refl) (not_one s _ (λ e. absurd (cc e))) traffic
    go (Gave_up i p offered) t traffic = plain _ (refl, refl) (not_two s _ _ (λ e. absurd (cc e)) (λ e. absurd (cc e))) traffic
    go Pumped t traffic = plain [] (refl, refl) (λ i. i) traffic
    go Pumped_nothing t traffic = plain [] (refl, refl) (λ i. i) traffic
    go Pump_refused t traffic = plain [] (refl, refl) (λ i. i) traffic
    go (Closed_gone i p) t traffic = plain _ (refl, refl) (not_one s _ (λ e. absurd (cc e))) traffic
    go Paused t traffic = plain _ (refl, refl) (not_one s _ (λ e. absurd (cc e))) traffic
    go (Reload_decided g) t traffic = plain [] (refl, refl) (λ i. i) traffic
    go (Reload_undecided g) t traffic = plain [] (refl, refl) (λ i. i) traffic

-- ---- whole stories

count_story : (L : Lacks) (s : ℕ) (ds : List Deed) (known : List Peer) (cs : List Call) (v w : Served) (os : List Occurrence) → Story L v ds os w → Knows known v → Counted s cs v.traffic → Counted s (cs ++ flat_map calls ds) w.traffic
count_story L s [] known cs v w os story k c = subst (λ (z : List Call). Counted s z w.traffic) (sym (append-nil cs)) (subst (λ (z : Served). Counted s cs z.traffic) (sym story.1) c)
count_story L s (d ∷ ds) known cs v w os (mid, first, rest, e, does, story) k c =
    let one = goes known v mid d first does k in
    let here = count_deed s cs v mid d first does (λ i p at. k.named p (k.slots i p at)) c in
    subst (λ (z : List Call). Counted s z w.traffic) (append_assoc cs (calls d) (flat_map calls ds)) (count_story L s ds (met_by d ++ known) (cs ++ calls d) mid w rest story one.knows here)

met_accepts : (d : Deed) (p : Peer) → IsIn p (met_by d) → IsIn (Accepted p.socket) (calls d)
met_accepts (Met i q) p (inl e) = inl (ap (λ (z : Peer). Accepted z.socket) e)
met_accepts (Met i q) p (inr x) = absurd x
met_accepts (Turned_away r o) p x = absurd x
met_accepts (Met_no_one f) p x = absurd x
met_accepts (Heard i q room bytes passage) p x = absurd x
met_accepts (Heard_partly i q room bytes) p x = absurd x
met_accepts (Heard_nothing i q room) p x = absurd x
met_accepts (Heard_end i q room f) p x = absurd x
met_accepts (Gave i q offered taken passage) p x = absurd x
met_accepts (Gave_partly i q offered taken) p x = absurd x
met_accepts (Gave_nothing i q offered) p x = absurd x
met_accepts (Gave_up i q offered) p x = absurd x
met_accepts Pumped p x = absurd x
met_accepts Pumped_nothing p x = absurd x
met_accepts Pump_refused p x = absurd x
met_accepts (Closed_gone i q) p x = absurd x
met_accepts Paused p x = absurd x
met_accepts (Reload_decided g) p x = absurd x
met_accepts (Reload_undecided g) p x = absurd x

all_accepted : (ds : List Deed) (p : Peer) → IsIn p (all_met ds) → IsIn (Accepted p.socket) (flat_map calls ds)
all_accepted [] p x = absurd x
all_accepted (d ∷ ds) p x = go (all_accepted ds p) (in_either p (met_by d) (all_met ds) x)
  where
    go : (IsIn p (all_met ds) → IsIn (Accepted p.socket) (flat_map calls ds)) → IsIn p (met_by d) ⊎ IsIn p (all_met ds) → IsIn (Accepted p.socket) (calls d ++ flat_map calls ds)
    go rest (inl i) = in_front (Accepted p.socket) (calls d) (flat_map calls ds) (met_accepts d p i)
    go rest (inr i) = in_back (Accepted p.socket) (calls d) (flat_map calls ds) (rest i)

-- from a server with no socket
pub are_counted : (L : Lacks) (ds : List Deed) (v w : Served) (os : List Occurrence) → v.peers ≡ [] → Story L v ds os w → AreCounted ds w.traffic
are_counted L ds v w os none story p i t e =
    let start : Counted p.socket [] v.traffic = record { given = λ x. absurd x; none = λ x. (refl, refl); sums = λ x. absurd x } in
    let all = count_story L p.socket ds [] [] v w os story (knows_none v none) start in
    let sums = all.sums (all_accepted ds p i) t e in
    let joined = are_joined L ds v w os none story p i in
    (sums.0 ∙ ap (sum_by length) (sym joined.pieces), sums.1 ∙ ap (sum_by (λ (n : ℕ). n)) (sym joined.amounts))
