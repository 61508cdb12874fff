-- The conditions of a login, one by one. Sources: RFC 4616; RabbitMQ, "Credentials and Passwords".
use Rattle.std.specs.Prelude.{◌≡◌, Bool, ◌∷◌, ◌++◌, take, ◌&&◌}
use Rattle.std.specs.Str.{bytes_eq}
use Rattle.sha2.specs.Sha256.{sha256}
use Rattle.model.specs.Words.{Text}
use Rattle.model.specs.Login.{HasNoNul}
use Rattle.model.specs.declared.messages.User.{User}

-- `text` is `front`, its first NUL, and `back`
pub record IsCut (text front back : Text) : Type 0 where
  pub form : text ≡ front ++ 0 ∷ back
  pub whole : HasNoNul front

-- `hash` is four bytes of salt, followed by the SHA-256 digest of salt and password
abbrev pub has_hash : Text → Text → Bool
has_hash hash password = bytes_eq hash (take 4 hash ++ sha256 (take 4 hash ++ password))

-- `user` is called `name` and has the hash of `password`
abbrev pub is_user : Text → Text → User → Bool
is_user name password user = bytes_eq user.name name && has_hash user.hash password
