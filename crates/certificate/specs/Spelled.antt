-- How certificates are written in a file (own).
use Rattle.std.specs.Prelude.{◌++◌, ◌∷◌, [], codes, ℕ, Bool, true, false, List, map}
use Rattle.json.specs.Print.{quoted}
use Rattle.serde_json.specs.Data.{Data, Members, number, unsigned, string, array, object, member, no_members}
use Rattle.serde_json.specs.View.{items_of}
use Rattle.serde_json.specs.Written.{comma_if, compact_text}
use Rattle.model.specs.Words.{Text}
use Rattle.model.specs.Certificates.{Certificate, Form, Whole, Sliced, Excepting}

-- a number of a state, as JSON
abbrev pub number_data : ℕ → Data
number_data n = number (unsigned n)

-- a state: an array of its numbers
abbrev pub state_data : List ℕ → Data
state_data s = array (items_of (map number_data s))

-- the states of a certificate: an array of states, in order
abbrev pub states_data : List (List ℕ) → Data
states_data ss = array (items_of (map state_data ss))

-- the indices that are tracked: an array of numbers
abbrev pub indices_data : List ℕ → Data
indices_data indices = array (items_of (map number_data indices))

-- the patterns of `except`: an array of their texts
abbrev pub excepts_data : List Text → Data
excepts_data excepts = array (items_of (map string excepts))

-- the texts of a certificate
pub record Texts : Type 0 where
  pub exchange : Text
  pub mode : Text
  pub pattern : Text
  pub queue : Text

-- the texts of certificate `c`
abbrev pub texts_of : Certificate → Texts
texts_of c = record { exchange = c.exchange; mode = c.mode; pattern = c.pattern; queue = c.queue }

-- a certificate of form 1, its members in the order of their names
abbrev pub whole_data : Texts → Data → Data
whole_data t states =
    object (member (codes "exchange") (string t.exchange) (member (codes "form") (number (unsigned 1)) (member (codes "mode") (string t.mode)
    (member (codes "pattern") (string t.pattern) (member (codes "queue") (string t.queue) (member (codes "states") states no_members))))))

-- a certificate of form 2, its members in the order of their names
abbrev pub sliced_data : Texts → Data → Data → Data
sliced_data t states tracked =
    object (member (codes "exchange") (string t.exchange) (member (codes "form") (number (unsigned 2)) (member (codes "mode") (string t.mode)
    (member (codes "pattern") (string t.pattern) (member (codes "queue") (string t.queue) (member (codes "states") states
    (member (codes "tracked") tracked no_members)))))))

-- a certificate of form 3, its members in the order of their names
abbrev pub excepting_data : Texts → Data → Data → Data → Data
excepting_data t states tracked excepts =
    object (member (codes "except") excepts (member (codes "exchange") (string t.exchange) (member (codes "form") (number (unsigned 3))
    (member (codes "mode") (string t.mode) (member (codes "pattern") (string t.pattern) (member (codes "queue") (string t.queue)
    (member (codes "states") states (member (codes "tracked") tracked no_members))))))))

-- a certificate of this form
abbrev pub form_data : Form → Texts → Data → Data
form_data Whole t states = whole_data t states
form_data (Sliced indices) t states = sliced_data t states (indices_data indices)
form_data (Excepting excepts indices) t states = excepting_data t states (indices_data indices) (excepts_data excepts)

-- a certificate: an object with the members of its form
abbrev pub certificate_data : Certificate → Data
certificate_data c = form_data c.form (texts_of c) (states_data c.states)

-- a file: an array of certificates, in order
abbrev pub file_data : List Certificate → Data
file_data cs = array (items_of (map certificate_data cs))

-- the members before `states` of a certificate without `except`, in the order of their names
abbrev pub plain_head : Texts → ℕ → Members
plain_head t form =
    member (codes "exchange") (string t.exchange) (member (codes "form") (number_data form) (member (codes "mode") (string t.mode)
    (member (codes "pattern") (string t.pattern) (member (codes "queue") (string t.queue) no_members))))

-- the members before `states` of a certificate with `except`, in the order of their names
abbrev pub excepting_head : Texts → Data → Members
excepting_head t excepts = member (codes "except") excepts (plain_head t 3)

-- the members before `states` of a certificate of this form
abbrev pub head_members : Form → Texts → Members
head_members Whole t = plain_head t 1
head_members (Sliced indices) t = plain_head t 2
head_members (Excepting excepts indices) t = excepting_head t (excepts_data excepts)

-- members as text, without the closing brace of their object
abbrev pub members_front : Bool → Members → List ℕ
members_front later no_members = []
members_front later (member k d ms) = comma_if later ++ (quoted k ++ 58 ∷ (compact_text d ++ members_front true ms))

-- the text of a certificate up to its states
abbrev pub head_text : Form → Texts → List ℕ
head_text form t = (123 ∷ members_front false (head_members form t)) ++ codes ",\"states\":"

-- the text of the indices that are tracked, behind the states
abbrev pub tracked_text : List ℕ → List ℕ
tracked_text indices = codes ",\"tracked\":" ++ (compact_text (indices_data indices) ++ 125 ∷ [])

-- the text of a certificate behind its states
abbrev pub tail_text : Form → List ℕ
tail_text Whole = 125 ∷ []
tail_text (Sliced indices) = tracked_text indices
tail_text (Excepting excepts indices) = tracked_text indices
