-- One more deed, and what a server does after what it did.
use Rattle.serving.proofs.Names.{◌≡◌, ◌+◌, ◌⊎◌, inl, inr, ℕ, List, [], ◌∷◌, ◌++◌, length, Bool, true, false, Option, Some, None, flat_map, count_by, refl, sym, ap, subst, ◌∙◌, append_assoc, append-nil, arith, ◌==◌, ◌||◌, if◌then◌else◌, MatchBool, none-some, list_any, flat_map-append, filter_map-append, list_any-append, sum_by-append, IsIn, Occurrence, World, Call, Accepted, Not_accepted, Accept_failed, Got, Nothing_got, Read_ended, Read_failed, Took, Nothing_taken, Write_failed, Closed, Welcomed, Farewell, Rested, Ask, ask, asks, Totals, no_bytes, with_got, with_taken, total_after, totals_after, Traffic, AddsCalls, Follows, is_failed, Attempt, Brings, Attempts, Served, served, Deed, calls, is_done, is_unasked, DoesDeed, Story, Serves, RestsUnless, Lacks, Peer}
use Rattle.std.proofs.Math.Bool.{or-false}

-- ---- what a wire tells

follows_none : (traffic : Option (List Call)) → Follows traffic [] traffic
follows_none None = tt
follows_none (Some xs) = (xs, refl, sym (append-nil xs))

follows_then : (a b c : Option (List Call)) (xs ys : List Call) → Follows a xs b → Follows b ys c → Follows a (xs ++ ys) c
follows_then a b None xs ys f g = tt
follows_then a None (Some cs) xs ys f (before, is, all) = absurd (cc is)
follows_then a (Some bs) (Some cs) xs ys (first, was, here) (before, is, all) =
    let same : before ≡ bs = cc is in
    (first, was, all ∙ ap (λ (z : List Call). z ++ ys) (same ∙ here) ∙ append_assoc first xs ys)

failed_then : (n : ℕ) (xs ys : List Call) → (n + count_by is_failed xs) + count_by is_failed ys ≡ n + count_by is_failed (xs ++ ys)
failed_then n xs ys =
    let e : count_by is_failed (xs ++ ys) ≡ count_by is_failed xs + count_by is_failed ys = sum_by-append _ xs ys in
    omega (arith, e)

pub in_either : {A : Type 0} (x : A) (xs ys : List A) → IsIn x (xs ++ ys) → IsIn x xs ⊎ IsIn x ys
in_either x [] ys i = inr i
in_either x (y ∷ xs) ys (inl e) = inl (inl e)
in_either x (y ∷ xs) ys (inr i) = go (in_either x xs ys i)
  where
    go : IsIn x xs ⊎ IsIn x ys → IsIn x (y ∷ xs) ⊎ IsIn x ys
    go (inl j) = inl (inr j)
    go (inr j) = inr j

totals-append : (s : ℕ) (o : Option Totals) (xs ys : List Call) → totals_after s o (xs ++ ys) ≡ totals_after s (totals_after s o xs) ys
totals-append s o [] ys = refl
totals-append s o (c ∷ xs) ys = totals-append s (total_after s o c) xs ys

-- a choice between totals, before and after
either_total : (s : ℕ) (ys : List Call) (t : Totals) (p q r u : Option Totals) (x : Bool) → (totals_after s p ys ≡ Some t → totals_after s q ys ≡ Some t) → (totals_after s r ys ≡ Some t → totals_after s u ys ≡ Some t)
    → totals_after s (if x then p else r) ys ≡ Some t → totals_after s (if x then q else u) ys ≡ Some t
either_total s ys t p q r u true f g e = f e
either_total s ys t p q r u false f g e = g e

-- totals that are told with none before are the same with any before: the socket came since
totals_any : (s : ℕ) (o : Option Totals) (ys : List Call) (t : Totals) → totals_after s None ys ≡ Some t → totals_after s o ys ≡ Some t
totals_any s o [] t e = absurd (none-some t e)
totals_any s o (Accepted r ∷ ys) t e = either_total s ys t (Some no_bytes) (Some no_bytes) None o (r == s) (λ f. f) (totals_any s o ys t) e
totals_any s o (Got r room bytes ∷ ys) t e = either_total s ys t None (with_got (length bytes) o) None o (r == s) (totals_any s (with_got (length bytes) o) ys t) (totals_any s o ys t) e
totals_any s o (Took r offered taken ∷ ys) t e = either_total s ys t None (with_taken (length taken) o) None o (r == s) (totals_any s (with_taken (length taken) o) ys t) (totals_any s o ys t) e
totals_any s o (Not_accepted ∷ ys) t e = totals_any s o ys t e
totals_any s o (Accept_failed ∷ ys) t e = totals_any s o ys t e
totals_any s o (Nothing_got r room ∷ ys) t e = totals_any s o ys t e
totals_any s o (Read_ended r room ∷ ys) t e = totals_any s o ys t e
totals_any s o (Read_failed r room ∷ ys) t e = totals_any s o ys t e
totals_any s o (Nothing_taken r offered ∷ ys) t e = totals_any s o ys t e
totals_any s o (Write_failed r offered ∷ ys) t e = totals_any s o ys t e
totals_any s o (Closed r ∷ ys) t e = totals_any s o ys t e
totals_any s o (Welcomed r ∷ ys) t e = totals_any s o ys t e
totals_any s o (Farewell r ∷ ys) t e = totals_any s o ys t e
totals_any s o (Rested ∷ ys) t e = totals_any s o ys t e

totals_then : (s : ℕ) (a b c : Option Totals) (xs ys : List Call) (t : Totals) → ((u : Totals) → b ≡ Some u → totals_after s a xs ≡ Some u) → (c ≡ Some t → totals_after s b ys ≡ Some t) → c ≡ Some t → totals_after s a (xs ++ ys) ≡ Some t
totals_then s a None c xs ys t f g e = totals-append s a xs ys ∙ totals_any s (totals_after s a xs) ys t (g e)
totals_then s a (Some u) c xs ys t f g e = totals-append s a xs ys ∙ ap (λ (o : Option Totals). totals_after s o ys) (f u refl) ∙ g e

pub tells_none : (traffic : Traffic) → AddsCalls traffic [] traffic
tells_none traffic =
    let none : traffic.failures ≡ traffic.failures + 0 = omega arith in
    record { calls = follows_none traffic.calls; failures = none; kept = λ s e. e; given = λ s i. absurd i; totals = λ s t e. e }

pub tells_then : (a b c : Traffic) (xs ys : List Call) → AddsCalls a xs b → AddsCalls b ys c → AddsCalls a (xs ++ ys) c
tells_then a b c xs ys s t = record {
  calls = follows_then a.calls b.calls c.calls xs ys s.calls t.calls;
  failures = t.failures ∙ ap (λ (n : ℕ). n + count_by is_failed ys) s.failures ∙ failed_then a.failures xs ys;
  kept = λ n e. t.kept n (s.kept n e);
  given = λ n i. given n (in_either (Accepted n) xs ys i);
  totals = λ n u e. totals_then n (a.totals n) (b.totals n) (c.totals n) xs ys u (s.totals n) (t.totals n u) e;
}
  where
    given : (n : ℕ) → IsIn (Accepted n) xs ⊎ IsIn (Accepted n) ys → c.is_given n ≡ true
    given n (inl i) = t.kept n (s.given n i)
    given n (inr i) = t.given n i

-- ---- what a server does

pub serves_not : {L : Lacks} (v : Served) → Serves L v [] false v
serves_not v = record { deeds = []; occurrences = []; story = (refl, refl); asks = refl; all_asked = refl; done = refl }

pub story-append : (L : Lacks) (ds es : List Deed) (a b c : Served) (os ps : List Occurrence) → Story L a ds os b → Story L b es ps c → Story L a (ds ++ es) (os ++ ps) c
story-append L [] es a b c os ps s t =
    subst (λ (z : List Occurrence). Story L a es (z ++ ps) c) (sym s.0) (subst (λ (z : Served). Story L z es ps c) s.1 t)
story-append L (d ∷ ds) es a b c os ps (mid, first, rest, e, does, s) t =
    (mid, first, rest ++ ps, ap (λ (z : List Occurrence). z ++ ps) e ∙ append_assoc first rest ps, does, story-append L ds es mid b c rest ps s t)

-- the same, of slots that are so
pub serves_at : {L : Lacks} (old : Served) (asked : List Ask) (acted : Bool) (w : World) (ps qs : List (Option Peer)) (traffic : Traffic) → qs ≡ ps
    → Serves L old asked acted (served w ps traffic) → Serves L old asked acted (served w qs traffic)
serves_at {L} old asked acted w ps qs traffic e s = subst (λ (zs : List (Option Peer)). Serves L old asked acted (served w zs traffic)) (sym e) s

pub serves_then : {L : Lacks} (a b c : Served) (xs ys : List Ask) (p q : Bool) → Serves L a xs p b → Serves L b ys q c → Serves L a (xs ++ ys) (p || q) c
serves_then {L = L} a b c xs ys p q s t = record {
  deeds = s.deeds ++ t.deeds;
  occurrences = s.occurrences ++ t.occurrences;
  story = story-append L s.deeds t.deeds a b c s.occurrences t.occurrences s.story t.story;
  asks = ap asks (flat_map-append calls s.deeds t.deeds) ∙ filter_map-append ask (flat_map calls s.deeds) (flat_map calls t.deeds)
      ∙ ap (λ (z : List Ask). z ++ asks (flat_map calls t.deeds)) s.asks ∙ ap (λ (z : List Ask). xs ++ z) t.asks;
  all_asked = list_any-append is_unasked s.deeds t.deeds ∙ ap (λ (z : Bool). z || list_any is_unasked t.deeds) s.all_asked ∙ t.all_asked;
  done = list_any-append is_done s.deeds t.deeds ∙ ap (λ (z : Bool). z || list_any is_done t.deeds) s.done ∙ ap (λ (z : Bool). p || z) t.done;
}

pub serves_one : {L : Lacks} (a b : Served) (xs : List Ask) (p : Bool) (d : Deed) (os : List Occurrence) → DoesDeed L a d os b → asks (calls d) ≡ xs → is_unasked d ≡ false → is_done d ≡ p → Serves L a xs p b
serves_one a b xs p d os does asked pump done = record {
  deeds = d ∷ [];
  occurrences = os;
  story = (b, os, [], sym (append-nil os), does, (refl, refl));
  asks = ap asks (append-nil (calls d)) ∙ asked;
  all_asked = or-false (is_unasked d) ∙ pump;
  done = or-false (is_done d) ∙ done;
}

pub attempt_one : (L : Lacks) (a b : World) (t : Attempt) (os : List Occurrence) → Brings L a t os b → Attempts L a (t ∷ []) os b
attempt_one L a b t os br = (b, os, [], sym (append-nil os), br, (refl, refl))

pub attempt_two : (L : Lacks) (a b c : World) (t u : Attempt) (os ps : List Occurrence) → Brings L a t os b → Brings L b u ps c → Attempts L a (t ∷ u ∷ []) (os ++ ps) c
attempt_two L a b c t u os ps br cr = (b, os, ps, refl, br, attempt_one L b c u ps cr)

-- ---- rests

pub rests_once : (v : Served) (acted : Bool) (now : Traffic) → acted ≡ false → AddsCalls v.traffic (Rested ∷ []) now → RestsUnless v acted (served v.world v.peers now)
rests_once v acted now quiet t =
    let w = served v.world v.peers now in
    subst (λ (x : Bool). MatchBool x (w ≡ v) ((w ≡ record v { traffic = now }) × AddsCalls v.traffic (Rested ∷ []) now)) (sym quiet) (refl, t)

pub rests_not : (v : Served) (acted : Bool) → acted ≡ true → RestsUnless v acted v
rests_not v acted busy = subst (λ (x : Bool). MatchBool x (v ≡ v) ((v ≡ v) × AddsCalls v.traffic (Rested ∷ []) v.traffic)) (sym busy) refl
