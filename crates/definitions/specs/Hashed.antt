-- Users whose passwords are hashed as required.
use Rattle.std.specs.Prelude.{◌≡◌, List, All, IsSome, map}
use Rattle.model.specs.declared.messages.User.{User}
use Rattle.definitions.specs.declared.document.UserEntry.{UserEntry}
use Rattle.definitions.specs.States.{hash_of, user_of}

-- each entry's password is hashed as required, and `users` are the users that the entries set up
pub record AreHashed (entries : List UserEntry) (users : List User) : Type 0 where
  pub hashed : All (λ (u : UserEntry). IsSome (hash_of u)) entries
  pub are : users ≡ map user_of entries
