use Rattle.certificate.proofs.Names.{◌≡◌, ◌++◌, AllByRecursion, drop, map, string, view}
use Rattle.std.specs.Prelude.{IsUtf8}
use Rattle.certificate.proofs.writing.texts_value.Given as goal

abbrev pub invariant-loop-text : goal.invariant-loop-text
invariant-loop-text l = record {
  value : map view l.found.items ++ map string (drop l.text-index l.texts) ≡ map string l.texts;
  utf8 : AllByRecursion IsUtf8 (drop l.text-index l.texts) → AllByRecursion IsUtf8 l.texts;
}
