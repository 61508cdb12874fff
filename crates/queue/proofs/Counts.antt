-- What is kept beside the entries of a queue, at each change.
use Rattle.queue.proofs.Names.{◌≡◌, ℕ, suc, ◌+◌, ◌*◌, ◌<◌, ◌≤◌, List, [], ◌∷◌, ◌++◌, length, map, filter, refl, sym, ap, ◌∙◌, subst, arith, Bool, true, false, cond, Option, Some, None, find, is_some, false≢true, le-ltb, ltb-false, is_ready, body_bytes, freed, is_under, is_held_as, held_as, freed_now, change_first, without_first, Entry, Message, Holder, Ready, num, tally, some_pass, total, ready_size, is_long, IsCounted}
use Rattle.std.proofs.Common.{not}
use Rattle.queue.proofs.Places.{tally-most}
use Rattle.queue.proofs.Joined.{not_found, once_mapped, once_left_out}
use Rattle.queue.proofs.Slotted.{held_not_ready, freed_there, freed_same, same_held, same_count}

-- ---- sums

total-changed : {X : Type 0} (f : X → ℕ) (p : X → Bool) (g : X → X) (xs : List X) (x : X) → find p xs ≡ Some x → total f (change_first p g xs) + f x ≡ total f xs + f (g x)
total-changed f p g [] x e = absurd (cc)
total-changed {X = X} f p g (y ∷ ys) x e = go (p y) (total-changed f p g ys x) e
  where
    go : (b : Bool) → (find p ys ≡ Some x → total f (change_first p g ys) + f x ≡ total f ys + f (g x)) → cond b (Some y) (find p ys) ≡ Some x
        → total f (cond b (g y ∷ ys) (y ∷ change_first p g ys)) + f x ≡ (f y + total f ys) + f (g x)
    go true r e = same y x e
      where
        same : (y x : X) → Some y ≡ Some x → (f (g y) + total f ys) + f x ≡ (f y + total f ys) + f (g x)
        same y x e = let i : y ≡ x = cc in let a = ap f i in let b = ap (λ (z : X). f (g z)) i in omega arith
    go false r e = let a = r e in omega arith

total-without : {X : Type 0} (f : X → ℕ) (p : X → Bool) (xs : List X) (x : X) → find p xs ≡ Some x → total f (without_first p xs) + f x ≡ total f xs
total-without f p [] x e = absurd (cc)
total-without {X = X} f p (y ∷ ys) x e = go (p y) (total-without f p ys x) e
  where
    go : (b : Bool) → (find p ys ≡ Some x → total f (without_first p ys) + f x ≡ total f ys) → cond b (Some y) (find p ys) ≡ Some x
        → total f (cond b ys (y ∷ without_first p ys)) + f x ≡ f y + total f ys
    go true r e = same y x e
      where
        same : (y x : X) → Some y ≡ Some x → total f ys + f x ≡ f y + total f ys
        same y x e = let i : y ≡ x = cc in let a = ap f i in omega arith
    go false r e = let a = r e in omega arith

tally-total : {X : Type 0} (p : X → Bool) (xs : List X) → tally p xs ≡ total (λ x. num (p x)) xs
tally-total p [] = refl
tally-total p (x ∷ xs) = let r = tally-total p xs in omega arith

length-total : {X : Type 0} (xs : List X) → length xs ≡ total (λ _. 1) xs
length-total [] = refl
length-total (x ∷ xs) = let r = length-total xs in omega arith

tally-changed : {X : Type 0} (q p : X → Bool) (g : X → X) (xs : List X) (x : X) → find p xs ≡ Some x → tally q (change_first p g xs) + num (q x) ≡ tally q xs + num (q (g x))
tally-changed q p g xs x e = let a = tally-total q xs in let b = tally-total q (change_first p g xs) in let c = total-changed (λ y. num (q y)) p g xs x e in omega arith

tally-without : {X : Type 0} (q p : X → Bool) (xs : List X) (x : X) → find p xs ≡ Some x → tally q (without_first p xs) + num (q x) ≡ tally q xs
tally-without q p xs x e = let a = tally-total q xs in let b = tally-total q (without_first p xs) in let c = total-without (λ y. num (q y)) p xs x e in omega arith

length-changed : {X : Type 0} (p : X → Bool) (g : X → X) (xs : List X) (x : X) → find p xs ≡ Some x → length (change_first p g xs) ≡ length xs
length-changed p g xs x e = let a = length-total xs in let b = length-total (change_first p g xs) in let c = total-changed (λ _. 1) p g xs x e in omega arith

-- whether one passes or not
pub length-changed-all : {X : Type 0} (p : X → Bool) (g : X → X) (xs : List X) → length (change_first p g xs) ≡ length xs
length-changed-all p g [] = refl
length-changed-all {X = X} p g (x ∷ xs) = go (p x) (length-changed-all p g xs)
  where
    go : (b : Bool) → length (change_first p g xs) ≡ length xs → length (cond b (g x ∷ xs) (x ∷ change_first p g xs)) ≡ suc (length xs)
    go true r = refl
    go false r = ap suc r

pub length-without : {X : Type 0} (p : X → Bool) (xs : List X) (x : X) → find p xs ≡ Some x → length (without_first p xs) + 1 ≡ length xs
length-without p xs x e = let a = length-total xs in let b = length-total (without_first p xs) in let c = total-without (λ _. 1) p xs x e in omega arith

-- one is there: without it there is one less
pub shorter : {X : Type 0} (p : X → Bool) (xs ys : List X) → some_pass p xs ≡ true → ys ≡ without_first p xs → length ys + 1 ≡ length xs
shorter p xs ys some e = ap (λ (zs : List _). length zs + 1) e ∙ go (find p xs) refl some
  where
    go : (o : Option _) → find p xs ≡ o → is_some o ≡ true → length (without_first p xs) + 1 ≡ length xs
    go None e h = absurd (false≢true h)
    go (Some x) e h = length-without p xs x e

total-end : {X : Type 0} (f : X → ℕ) (xs : List X) (x : X) → total f (xs ++ x ∷ []) ≡ total f xs + f x
total-end f [] x = omega arith
total-end f (y ∷ ys) x = let r = total-end f ys x in omega arith

tally-end : {X : Type 0} (p : X → Bool) (xs : List X) (x : X) → tally p (xs ++ x ∷ []) ≡ tally p xs + num (p x)
tally-end p [] x = omega arith
tally-end p (y ∷ ys) x = let r = tally-end p ys x in omega arith

length-end : {X : Type 0} (xs : List X) (x : X) → length (xs ++ x ∷ []) ≡ length xs + 1
length-end [] x = refl
length-end (y ∷ ys) x = let r = length-end ys x in omega arith

-- what is found passes
pub passes : {X : Type 0} (p : X → Bool) (xs : List X) (x : X) → find p xs ≡ Some x → p x ≡ true
passes p [] x e = absurd (cc)
passes {X = X} p (y ∷ ys) x e = go (p y) refl (passes p ys x) e
  where
    go : (b : Bool) → p y ≡ b → (find p ys ≡ Some x → p x ≡ true) → cond b (Some y) (find p ys) ≡ Some x → p x ≡ true
    go true h r e = same y x h e
      where
        same : (y x : X) → p y ≡ true → Some y ≡ Some x → p x ≡ true
        same y x h e = let i : y ≡ x = cc in ap p (sym i) ∙ h
    go false h r e = r e

counted_found : {X : Type 0} (p : X → Bool) (xs : List X) (x : X) → find p xs ≡ Some x → 1 ≤ tally p xs
counted_found p xs x e = let a = tally-without p p xs x e in let b = ap num (passes p xs x e) in omega arith

-- ---- one entry

held_ready : (h : Holder) (e : Entry) → is_held_as h e ≡ true → is_ready e ≡ false
held_ready h e r = held_not_ready (is_under h) (Some e) r

ready_bytes_of : (e : Entry) → is_ready e ≡ true → ready_size e ≡ body_bytes e
ready_bytes_of e r = ap (λ (b : Bool). cond b (body_bytes e) 0) r

held_bytes_of : (e : Entry) → is_ready e ≡ false → ready_size e ≡ 0
held_bytes_of e r = ap (λ (b : Bool). cond b (body_bytes e) 0) r

short_size : (e : Entry) → num (is_long e) ≡ 0 → body_bytes e ≤ 18446744073709551615
short_size e z = ltb-false 18446744073709551615 (body_bytes e) (none (is_long e) z)
  where
    none : (b : Bool) → num b ≡ 0 → b ≡ false
    none true e = absurd (cc)
    none false e = refl

size-most : (e : Entry) → num (is_long e) ≡ 0 → ready_size e ≤ 18446744073709551615
size-most e z = go (is_ready e) (short_size e z)
  where
    go : (b : Bool) → body_bytes e ≤ 18446744073709551615 → cond b (body_bytes e) 0 ≤ 18446744073709551615
    go true le = le
    go false le = omega arith

total-most : (es : List Entry) → tally is_long es ≡ 0 → total ready_size es ≤ length es * 18446744073709551615
total-most [] z = omega arith
total-most (e ∷ es) z =
    let one = size-most e (omega (arith, z)) in
    let rest = total-most es (omega (arith, z)) in
    omega (arith, one, rest)

-- ---- the calls

-- the first ready message is held
pub hold_counted : (es : List Entry) (ready live bytes ready' bytes' : ℕ) (e : Entry) (holder : Holder) → IsCounted es ready live bytes → find is_ready es ≡ Some e → find (is_held_as holder) es ≡ None
    → ready' + 1 ≡ ready → bytes' + body_bytes e ≡ bytes → IsCounted (change_first is_ready (held_as holder) es) ready' live bytes'
hold_counted es ready live bytes ready' bytes' e holder c found free r b =
    let rdy = passes is_ready es e found in record {
      ready_count = (let t = tally-changed is_ready is_ready (held_as holder) es e found in let n = ap num rdy in let a = c.ready_count in omega arith);
      live_count = c.live_count ∙ sym (length-changed is_ready (held_as holder) es e found);
      sum = (let t = total-changed ready_size is_ready (held_as holder) es e found in let n = ready_bytes_of e rdy in let a = c.sum in omega arith);
      distinct = λ h. apart_now h (is_under h holder) refl;
      short = (let t = tally-changed is_long is_ready (held_as holder) es e found in let a = c.short in omega arith);
    }
  where
    apart_now : (h : Holder) (b : Bool) → is_under h holder ≡ b → tally (is_held_as h) (change_first is_ready (held_as holder) es) ≤ 1
    apart_now h false u = let t = tally-changed (is_held_as h) is_ready (held_as holder) es e found in let n = ap num u in let a = c.distinct h in omega arith
    apart_now h true u =
        let z : tally (is_held_as h) es ≡ 0 = same_count (is_held_as h) (is_held_as holder) (λ x. same_held h holder x u) es ∙ not_found (is_held_as holder) es free in
        let t = tally-changed (is_held_as h) is_ready (held_as holder) es e found in let n = ap num u in omega arith

-- the first ready message is taken out
pub take_counted : (es : List Entry) (ready live bytes ready' live' bytes' : ℕ) (e : Entry) → IsCounted es ready live bytes → find is_ready es ≡ Some e
    → ready' + 1 ≡ ready → live' + 1 ≡ live → bytes' + body_bytes e ≡ bytes → IsCounted (without_first is_ready es) ready' live' bytes'
take_counted es ready live bytes ready' live' bytes' e c found r l b =
    let rdy = passes is_ready es e found in record {
      ready_count = (let t = tally-without is_ready is_ready es e found in let n = ap num rdy in let a = c.ready_count in omega arith);
      live_count = (let t = length-without is_ready es e found in let a = c.live_count in omega arith);
      sum = (let t = total-without ready_size is_ready es e found in let n = ready_bytes_of e rdy in let a = c.sum in omega arith);
      distinct = λ h. (let t = tally-without (is_held_as h) is_ready es e found in let a = c.distinct h in omega arith);
      short = (let t = tally-without is_long is_ready es e found in let a = c.short in omega arith);
    }

-- what is held under a tag is taken out
pub remove_counted : (es : List Entry) (ready live bytes live' : ℕ) (e : Entry) (holder : Holder) → IsCounted es ready live bytes → find (is_held_as holder) es ≡ Some e
    → live' + 1 ≡ live → IsCounted (filter (λ x. not (is_held_as holder x)) es) ready live' bytes
remove_counted es ready live bytes live' e holder c found l =
    subst (λ (xs : List Entry). IsCounted xs ready live' bytes) (sym (once_left_out (is_held_as holder) es (c.distinct holder))) (
    let not_ready = held_ready holder e (passes (is_held_as holder) es e found) in record {
      ready_count = (let t = tally-without is_ready (is_held_as holder) es e found in let n = ap num not_ready in let a = c.ready_count in omega arith);
      live_count = (let t = length-without (is_held_as holder) es e found in let a = c.live_count in omega arith);
      sum = (let t = total-without ready_size (is_held_as holder) es e found in let n = held_bytes_of e not_ready in let a = c.sum in omega arith);
      distinct = λ h. (let t = tally-without (is_held_as h) (is_held_as holder) es e found in let a = c.distinct h in omega arith);
      short = (let t = tally-without is_long (is_held_as holder) es e found in let a = c.short in omega arith);
    })

-- freeing what is held under a tag changes one entry
pub freed_once : (es : List Entry) (holder : Holder) → tally (is_held_as holder) es ≤ 1 → map (freed (is_under holder)) es ≡ change_first (is_held_as holder) freed_now es
freed_once es holder le = once_mapped (is_held_as holder) (freed (is_under holder)) freed_now (freed_same (is_under holder)) (freed_there (is_under holder)) es le

-- what is held under a tag is ready again
pub release_counted : (es : List Entry) (ready live bytes ready' bytes' : ℕ) (e : Entry) (holder : Holder) → IsCounted es ready live bytes → find (is_held_as holder) es ≡ Some e
    → ready' ≡ ready + 1 → bytes' ≡ bytes + body_bytes e → IsCounted (map (freed (is_under holder)) es) ready' live bytes'
release_counted es ready live bytes ready' bytes' e holder c found r b =
    subst (λ (xs : List Entry). IsCounted xs ready' live bytes') (sym (freed_once es holder (c.distinct holder))) (
    let not_ready = held_ready holder e (passes (is_held_as holder) es e found) in record {
      ready_count = (let t = tally-changed is_ready (is_held_as holder) freed_now es e found in let n = ap num not_ready in let a = c.ready_count in omega arith);
      live_count = c.live_count ∙ sym (length-changed (is_held_as holder) freed_now es e found);
      sum = (let t = total-changed ready_size (is_held_as holder) freed_now es e found in let n = held_bytes_of e not_ready in let a = c.sum in omega arith);
      distinct = λ h. (let t = tally-changed (is_held_as h) (is_held_as holder) freed_now es e found in let a = c.distinct h in omega arith);
      short = (let t = tally-changed is_long (is_held_as holder) freed_now es e found in let a = c.short in omega arith);
    })

-- one more comes
pub push_counted : (es : List Entry) (ready live bytes ready' live' bytes' : ℕ) (m : Message) → IsCounted es ready live bytes → length m.content.body ≤ 18446744073709551615
    → ready' ≡ ready + 1 → live' ≡ live + 1 → bytes' ≡ bytes + length m.content.body → IsCounted (es ++ record { message = m; mark = Ready } ∷ []) ready' live' bytes'
push_counted es ready live bytes ready' live' bytes' m c le r l b =
    let v : Entry = record { message = m; mark = Ready } in record {
      ready_count = (let t = tally-end is_ready es v in let a = c.ready_count in omega arith);
      live_count = (let t = length-end es v in let a = c.live_count in omega arith);
      sum = (let t = total-end ready_size es v in let a = c.sum in omega arith);
      distinct = λ h. (let t = tally-end (is_held_as h) es v in let a = c.distinct h in omega arith);
      short = (let t = tally-end is_long es v in let a = c.short in let n = ap num (le-ltb 18446744073709551615 (length m.content.body) le) in omega arith);
    }

-- ---- the counts have room for a step

pub counts_most : (es : List Entry) (ready live bytes : ℕ) → IsCounted es ready live bytes → (ready ≤ live) × (bytes ≤ live * 18446744073709551615)
counts_most es ready live bytes c =
    let t = tally-most is_ready es in let a = c.ready_count in let b = c.live_count in let s = c.sum in let m = total-most es c.short in
    (omega arith, omega arith)

pub ready_least : (es : List Entry) (ready live bytes : ℕ) (e : Entry) → IsCounted es ready live bytes → find is_ready es ≡ Some e → (1 ≤ ready) × ((1 ≤ live) × (body_bytes e ≤ bytes))
ready_least es ready live bytes e c found =
    let one = counted_found is_ready es e found in
    let t = total-without ready_size is_ready es e found in
    let n = ready_bytes_of e (passes is_ready es e found) in
    let m = tally-most is_ready es in
    let a = c.ready_count in let b = c.live_count in let s = c.sum in
    (omega arith, (omega arith, omega arith))

pub held_least : (es : List Entry) (ready live bytes : ℕ) (e : Entry) (holder : Holder) → IsCounted es ready live bytes → find (is_held_as holder) es ≡ Some e
    → (1 ≤ live) × ((ready < live) × (body_bytes e ≤ 18446744073709551615))
held_least es ready live bytes e holder c found =
    let l = length-without (is_held_as holder) es e found in
    let t = tally-without is_ready (is_held_as holder) es e found in
    let n = ap num (held_ready holder e (passes (is_held_as holder) es e found)) in
    let m = tally-most is_ready (without_first (is_held_as holder) es) in
    let g = tally-without is_long (is_held_as holder) es e found in
    let s = c.short in
    let a = c.ready_count in let b = c.live_count in
    (omega arith, (omega arith, short_size e (omega arith)))
