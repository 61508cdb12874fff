-- Properties that are spelled alike are the same.
use Rattle.depot.proofs.Names.{◌≡◌, ◌∙◌, ◌++◌, List, ℕ, Result, Ok, Err, refl, sym, ap, arith}
use Rattle.std.specs.Int.{w16, w64, to_be_bytes}
use Rattle.model.specs.Headers.{Header, AreProperties, header_bytes, SaysHeader, said}
use Rattle.model.specs.Properties.{properties_bytes}
use Rattle.model.specs.declared.contents.Fields.{Fields as Properties}
use Rattle.headers.specs.Laws.{OneHeader}

-- the header of a body of no bytes
abbrev alone : Properties → Header
alone p = record { size = 0; properties = p }

-- its properties, if it is one
abbrev properties_in : Properties → Result Header ℕ → Properties
properties_in other (Ok h) = h.properties
properties_in other (Err code) = other

-- what is before them
abbrev behind_front : List ℕ → List ℕ
behind_front bytes = to_be_bytes w16 60 ++ to_be_bytes w16 0 ++ to_be_bytes w64 0 ++ bytes

pub alike : OneHeader → (p q : Properties) (bytes : List ℕ)
    → AreProperties p → bytes ≡ properties_bytes p → AreProperties q → bytes ≡ properties_bytes q → p ≡ q
alike one p q bytes fits e also same =
    let payload : List ℕ = header_bytes 0 p in
    let first : SaysHeader payload (Ok (alone p)) = said (omega arith) fits refl in
    let second : SaysHeader payload (Ok (alone q)) = said (omega arith) also (ap behind_front (sym e ∙ same)) in
    ap (properties_in p) (one payload (Ok (alone p)) (Ok (alone q)) first second)
