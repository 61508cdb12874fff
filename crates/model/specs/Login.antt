-- Who may log in, and how a login is written. Source: RFC 4616, "The PLAIN SASL
-- Mechanism", without an authorization identity; RabbitMQ, "Credentials and Passwords".
use Rattle.std.specs.Prelude.{codes, ◌≡◌, ◌≤◌, List, ◌∷◌, ◌++◌, length}
use Rattle.sha2.specs.Sha256.{sha256}
use Rattle.model.specs.Words.{Text}
use Rattle.model.specs.Topology.{IsIn}
use Rattle.model.specs.declared.messages.User.{User}

-- No byte of the text is NUL.
abbrev pub HasNoNul : Text → Type 0
HasNoNul t = IsIn 0 t → ⊥

-- A PLAIN response: NUL, a user name of at least one byte, NUL, a password, and no further NUL.
pub record IsPlain (response user password : Text) : Type 0 where
  pub form : response ≡ 0 ∷ user ++ 0 ∷ password
  pub named : 1 ≤ length user
  pub user_whole : HasNoNul user
  pub password_whole : HasNoNul password

-- `hash` is a hash of `password`: four bytes of salt, followed by the SHA-256 of salt and password.
pub record IsHashOf (hash password : Text) : Type 0 where
  pub salt : Text
  pub salted : length salt ≡ 4
  pub hashed : hash ≡ salt ++ sha256 (salt ++ password)

-- A login: by the mechanism PLAIN, as one of `users`, with that user's password.
pub record IsLogin (users : List User) (mechanism response : Text) : Type 0 where
  pub plain : mechanism ≡ codes "PLAIN"
  pub user : User
  pub password : Text
  pub form : IsPlain response user.name password
  pub known : IsIn user users
  pub right : IsHashOf user.hash password
