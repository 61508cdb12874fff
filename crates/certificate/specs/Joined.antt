-- Values whose texts are joined to that of an array (own).
use Rattle.std.specs.Prelude.{◌≡◌, ◌≤◌, Some}
use Rattle.json.specs.Print.{print}
use Rattle.json.specs.Json.{Json}
use Rattle.json.specs.Tree.{json_tokens, depth, HasNumbers}
use Rattle.serde_json.specs.Data.{Data}
use Rattle.serde_json.specs.Read.{of_json}
use Rattle.serde_json.specs.Written.{compact_text}

-- the compact text of the value is read back as the value, also inside an array
pub record ReadsBackWithin (d : Data) : Type 0 where
  pub json : Json
  pub text : compact_text d ≡ print (json_tokens json)
  pub value : of_json json ≡ Some d
  pub numbers : HasNumbers json
  pub shallow : depth json ≤ 126
