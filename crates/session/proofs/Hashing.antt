-- What the test of a hash, and the test of a user, tells.
use Rattle.session.proofs.Names.{codes, IsTrue, IsFalse, ◌≡◌, ◌+◌, ◌≤◌, List, [], ◌∷◌, ◌++◌, Bool, true, false, ◌||◌, not, length, take, refl, sym, ap, ◌∙◌, subst, arith, inl, inr, length-append, Decides, true≢false, list_any, take_at, length-take-le, Text, IsIn, IsHashOf, IsPlain, IsLogin, has_hash, is_user}
use Rattle.std.specs.Str.{bytes_eq}
use Rattle.std.proofs.lemmas.Bool.Decides.{Decides-and}
use Rattle.std.proofs.lemmas.Slice.Eq.{bytes_eq-Decides}
use Rattle.sha2.specs.Sha256.{sha256}
use Rattle.sha2.proofs.Facts256.{length-sha256}
use Rattle.model.specs.declared.messages.User.{User}
use Rattle.session.proofs.Cutting.{one_plain}

hash_length : (hash password : Text) → IsHashOf hash password → length hash ≡ 36
hash_length hash password h =
    let a = length-append h.salt (sha256 (h.salt ++ password)) in
    let d = length-sha256 (h.salt ++ password) in
    let s = h.salted in
    let e : length hash ≡ length (h.salt ++ sha256 (h.salt ++ password)) = ap (λ (t : Text). length t) h.hashed in
    omega (arith, a, d, s, e)

-- of a hash its first four bytes are the salt
salt_is : (hash password : Text) (h : IsHashOf hash password) → take 4 hash ≡ h.salt
salt_is hash password h = ap (λ (t : Text). take 4 t) h.hashed ∙ take_at h.salt (sha256 (h.salt ++ password)) 4 h.salted

is_made : (hash password : Text) → IsHashOf hash password → hash ≡ take 4 hash ++ sha256 (take 4 hash ++ password)
is_made hash password h = h.hashed ∙ ap (λ (s : Text). s ++ sha256 (s ++ password)) (sym (salt_is hash password h))

-- what is the digest behind its own first four bytes has 4 bytes or more
made_long : (hash password : Text) → hash ≡ take 4 hash ++ sha256 (take 4 hash ++ password) → 4 ≤ length hash
made_long hash password e =
    let a = length-append (take 4 hash) (sha256 (take 4 hash ++ password)) in
    let d = length-sha256 (take 4 hash ++ password) in
    let s : length hash ≡ length (take 4 hash ++ sha256 (take 4 hash ++ password)) = ap (λ (t : Text). length t) e in
    omega (arith, a, d, s)

is_hash : (hash password : Text) → hash ≡ take 4 hash ++ sha256 (take 4 hash ++ password) → IsHashOf hash password
is_hash hash password e = record { salt = take 4 hash; salted = length-take-le 4 hash (made_long hash password e); hashed = e }

pub has_hash_decides : (hash password : Text) → Decides (has_hash hash password) (IsHashOf hash password)
has_hash_decides hash password =
    let d = bytes_eq-Decides hash (take 4 hash ++ sha256 (take 4 hash ++ password)) in
    (λ t. is_hash hash password (d.0 t), λ h. d.1 (is_made hash password h))

refuted : (v : Bool) → (v ≡ true → ⊥) → v ≡ false
refuted true n = absurd (n refl)
refuted false n = refl

-- what has another length than 36 bytes is a hash of no password
pub other_length : (hash password : Text) → (length hash ≡ 36 → ⊥) → has_hash hash password ≡ false
other_length hash password n = refuted (has_hash hash password) (λ t. n (hash_length hash password ((has_hash_decides hash password).0 t)))

-- ---- users

-- a user of this name, with the hash of this password
pub record IsUser (name password : Text) (user : User) : Type 0 where
  pub named : user.name ≡ name
  pub right : IsHashOf user.hash password

pub is_user_decides : (name password : Text) (user : User) → Decides (is_user name password user) (IsUser name password user)
is_user_decides name password user =
    let d = Decides-and (bytes_eq user.name name) (has_hash user.hash password) (bytes_eq-Decides user.name name) (has_hash_decides user.hash password) in
    (λ t. record { named = (d.0 t).0; right = (d.0 t).1 }, λ u. d.1 (u.named, u.right))

-- one of the users is such
pub record IsKnown (users : List User) (name password : Text) : Type 0 where
  pub user : User
  pub there : IsIn user users
  pub is : IsUser name password user

known_first : (users : List User) (user : User) (name password : Text) (v w : Bool) → (v ≡ true → IsUser name password user) → (w ≡ true → IsKnown users name password)
    → (v || w) ≡ true → IsKnown (user ∷ users) name password
known_first users user name password true w d ih e = record { user = user; there = inl refl; is = d refl }
known_first users user name password false w d ih e = let k = ih e in record { user = k.user; there = inr k.there; is = k.is }

pub known_if : (users : List User) (name password : Text) → list_any (is_user name password) users ≡ true → IsKnown users name password
known_if [] name password e = absurd (true≢false (sym e))
known_if (user ∷ users) name password e =
    known_first users user name password (is_user name password user) (list_any (is_user name password) users) (is_user_decides name password user).0 (known_if users name password) e

or_left : (v w : Bool) → v ≡ true → (v || w) ≡ true
or_left true w e = refl
or_left false w e = absurd (true≢false (sym e))

or_right : (v w : Bool) → w ≡ true → (v || w) ≡ true
or_right true w e = refl
or_right false w e = e

pub known_then : (users : List User) (name password : Text) (user : User) → IsIn user users → IsUser name password user → list_any (is_user name password) users ≡ true
known_then [] name password user i u = absurd i
known_then (first ∷ users) name password user (inl e) u =
    or_left (is_user name password first) (list_any (is_user name password) users) ((is_user_decides name password first).1 (subst (λ (x : User). IsUser name password x) e u))
known_then (first ∷ users) name password user (inr i) u =
    or_right (is_user name password first) (list_any (is_user name password) users) (known_then users name password user i u)

-- ---- the pass over the users

-- ---- logins

pub is_login : (users : List User) (mechanism response name password : Text) (v : Bool) → mechanism ≡ codes "PLAIN" → IsPlain response name password
    → v ≡ list_any (is_user name password) users → IsTrue v → IsLogin users mechanism response
is_login users mechanism response name password v m p e t =
    let k = known_if users name password (sym e ∙ t) in
    record {
      plain = m;
      user = k.user;
      password = password;
      form = subst (λ (n : Text). IsPlain response n password) (sym k.is.named) p;
      known = k.there;
      right = k.is.right;
    }

pub no_login : (users : List User) (mechanism response name password : Text) (v : Bool) → IsPlain response name password
    → v ≡ list_any (is_user name password) users → IsFalse v → IsLogin users mechanism response → ⊥
no_login users mechanism response name password v p e f l =
    let a = one_plain response l.user.name l.password name password l.form p in
    let u : IsUser name password l.user = record { named = a.fronts; right = subst (λ (t : Text). IsHashOf l.user.hash t) a.backs l.right } in
    true≢false (sym (known_then users name password l.user l.known u) ∙ sym e ∙ f)

not_other : (v : Bool) → not v ≡ false → v ≡ true
not_other true e = refl
not_other false e = absurd (true≢false e)

pub same_text : (a b : Text) → not (bytes_eq a b) ≡ false → a ≡ b
same_text a b e = (bytes_eq-Decides a b).0 (not_other (bytes_eq a b) e)
