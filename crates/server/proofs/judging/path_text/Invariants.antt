use Rattle.server.proofs.Names.{◌≡◌, ◌++◌, ◌∷◌, drop, codes, string_bytes, names_text}
use Rattle.server.proofs.judging.path_text.Given as goal

abbrev pub invariant-loop-name : goal.invariant-loop-name
invariant-loop-name l = string_bytes l.text ++ names_text (drop l.name-index l.path) ≡ 32 ∷ (codes "path" ++ names_text l.path)
