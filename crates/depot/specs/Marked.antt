-- The content of a dead letter. Source: RabbitMQ, "Dead Letter Exchanges"; the fields are own.
use Rattle.std.specs.Prelude.{◌≡◌, ℕ, List, ◌∷◌, ◌++◌, length, Option}
use Rattle.model.specs.Words.{Text}
use Rattle.model.specs.Tables.{with_length}
use Rattle.model.specs.Deaths.{AreMarked, with_headers}
use Rattle.model.specs.declared.contents.Content.{Content}
use Rattle.model.specs.declared.contents.Fields.{Fields as Properties}

-- a table field with a long string: the name after its length in one byte, the letter S, and the text after its length in four bytes
abbrev pub text_field : Text → Text → List ℕ
text_field name text = (length name ∷ name) ++ (83 ∷ with_length text)

-- The properties of a message that died in this queue, last sent to this exchange: only the headers change.
pub record ArePropertiesMarked (queue exchange : Text) (old new : Properties) : Type 0 where
  pub headers : Option Text
  pub marked : AreMarked queue exchange old.headers headers
  pub made : new ≡ record old { headers = headers }

-- The content of a message that died in this queue, last sent to this exchange: only the headers change.
pub record IsMarked (queue exchange : Text) (old new : Content) : Type 0 where
  pub headers : Option Text
  pub marked : AreMarked queue exchange old.properties.headers headers
  pub made : new ≡ with_headers old headers
