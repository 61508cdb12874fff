-- The certificates that a JSON value states (own).
use Rattle.std.specs.Prelude.{codes, ℕ, List, [], ◌∷◌, Option, Some, None, option_and_then, option_map, if◌then◌else◌, ◌==◌}
use Rattle.model.specs.Options.{◌>>=◌}
use Rattle.serde_json.specs.Data.{Data}
use Rattle.serde_json.specs.Find.{get, as_str, as_array}
use Rattle.json_file.specs.Members.{array_member, each, has_only, text_member, whole_number}
use Rattle.model.specs.Words.{Text}
use Rattle.model.specs.Certificates.{Certificate, Form, Whole, Sliced, Excepting}

-- a state: an array of whole numbers
unfoldable pub state_in : Data → Option (List ℕ)
state_in d = option_and_then (each whole_number) (as_array d)

-- the states of the member `states`
unfoldable pub states_at : Data → Option (List (List ℕ))
states_at d = option_and_then (each state_in) (option_and_then as_array (get (codes "states") d))

-- the indices of the member `tracked`
unfoldable pub tracked_at : Data → Option (List ℕ)
tracked_at d = option_and_then (each whole_number) (array_member (codes "tracked") d)

-- the texts of the member `except`
unfoldable pub excepts_at : Data → Option (List Text)
excepts_at d = option_and_then (each as_str) (array_member (codes "except") d)

-- ---- forms by number: each has its own members

-- the members of form 1
abbrev pub whole_names : List (List ℕ)
whole_names = codes "exchange" ∷ codes "form" ∷ codes "mode" ∷ codes "pattern" ∷ codes "queue" ∷ codes "states" ∷ []

-- the names of the members of a certificate of form 2
abbrev pub sliced_names : List (List ℕ)
sliced_names = codes "exchange" ∷ codes "form" ∷ codes "mode" ∷ codes "pattern" ∷ codes "queue" ∷ codes "states" ∷ codes "tracked" ∷ []

-- the members of form 3
abbrev pub excepting_names : List (List ℕ)
excepting_names = codes "except" ∷ codes "exchange" ∷ codes "form" ∷ codes "mode" ∷ codes "pattern" ∷ codes "queue" ∷ codes "states" ∷ codes "tracked" ∷ []

-- form 1, if the object has no other members
unfoldable pub whole_at : Data → Option Form
whole_at d = if has_only whole_names d then Some Whole else None

-- form 2, if the object has no other members
unfoldable pub sliced_at : Data → Option Form
sliced_at d = if has_only sliced_names d then option_map Sliced (tracked_at d) else None

-- the texts and the indices of form 3
unfoldable pub excepting_of : Data → Option Form
excepting_of d = do
  excepts ← excepts_at d
  indices ← tracked_at d
  Some (Excepting excepts indices)

-- form 3, if the object has no members but those of this form
unfoldable pub excepting_at : Data → Option Form
excepting_at d = if has_only excepting_names d then excepting_of d else None

-- the form of number `n`
unfoldable pub form_of : ℕ → Data → Option Form
form_of n d = if n == 1 then whole_at d else if n == 2 then sliced_at d else if n == 3 then excepting_at d else None

-- the form whose number is the member `form`, read from the members that belong to this form
unfoldable pub form_at : Data → Option Form
form_at d = option_and_then (λ n. form_of n d) (option_and_then whole_number (get (codes "form") d))

-- a certificate: an object with exactly the members of its form
unfoldable pub certificate_at : Data → Option Certificate
certificate_at d = do
  form ← form_at d
  exchange ← text_member (codes "exchange") d
  mode ← text_member (codes "mode") d
  pattern ← text_member (codes "pattern") d
  queue ← text_member (codes "queue") d
  states ← states_at d
  Some (record { form = form; exchange = exchange; mode = mode; pattern = pattern; queue = queue; states = states })

-- the certificates of a file, in order
unfoldable pub certificates_stated : Data → Option (List Certificate)
certificates_stated d = option_and_then (each certificate_at) (as_array d)
