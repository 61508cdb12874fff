-- The guarantees that a JSON value states (own).
use Rattle.std.specs.Prelude.{codes, List, [], Option, Some, None, option_and_then, if◌then◌else◌}
use Rattle.std.specs.Str.{bytes_eq}
use Rattle.model.specs.Options.{◌>>=◌}
use Rattle.serde_json.specs.Data.{Data}
use Rattle.serde_json.specs.Find.{get, as_array, as_str}
use Rattle.json_file.specs.Members.{array_member, each, text_member}
use Rattle.model.specs.Words.{Text}
use Rattle.model.specs.Guarantee.{Guarantee}
use Rattle.model.specs.declared.topologies.Mode.{Mode}
use Rattle.model.specs.declared.topologies.Mode.TheVariants.{Reaches, Never}

-- the mode of this name
abbrev pub mode_named : Text → Option Mode
mode_named t = if bytes_eq t (codes "reaches") then Some Reaches else if bytes_eq t (codes "never") then Some Never else None

-- the mode at the member `mode`
unfoldable pub mode_at : Data → Option Mode
mode_at d = do
  name ← text_member (codes "mode") d
  mode_named name

-- the texts of an array, if all its elements are texts
abbrev pub texts_of : Data → Option (List Text)
texts_of d = option_and_then (each as_str) (as_array d)

-- the texts of an array that may be left out
abbrev pub texts_if_there : Option Data → Option (List Text)
texts_if_there None = Some []
texts_if_there (Some d) = texts_of d

-- the patterns at the member `except`
unfoldable pub excepts_at : Data → Option (List Text)
excepts_at d = texts_if_there (get (codes "except") d)

-- a guarantee; other members are ignored
unfoldable pub guarantee_at : Data → Option Guarantee
guarantee_at d = do
  mode ← mode_at d
  exchange ← text_member (codes "exchange") d
  pattern ← text_member (codes "pattern") d
  queue ← text_member (codes "queue") d
  excepts ← excepts_at d
  Some (record { mode = mode; exchange = exchange; pattern = pattern; queue = queue; excepts = excepts })

-- the guarantees of a file, in its order; other members are ignored
unfoldable pub guarantees_at : Data → Option (List Guarantee)
guarantees_at d = option_and_then (each guarantee_at) (array_member (codes "guarantees") d)
