-- The words of a path.
use Rattle.server.proofs.Names.{◌≡◌, ◌∙◌, List, [], ◌∷◌, ◌++◌, refl, sym, ap, map, append_assoc, codes, Text, more_words, name_word, names_text, path_text, path_words}

names_end : (ns : List Text) → more_words (map name_word ns) ≡ names_text ns ++ 10 ∷ []
names_end [] = refl
names_end (n ∷ ns) = ap (λ (z : Text). 32 ∷ (name_word n ++ z)) (names_end ns) ∙ ap (λ (z : Text). 32 ∷ z) (sym (append_assoc (name_word n) (names_text ns) (10 ∷ [])))

pub path_end : (path : List Text) → more_words (path_words path) ≡ path_text path ++ 10 ∷ []
path_end [] = refl
path_end (n ∷ ns) = ap (λ (z : Text). 32 ∷ (codes "path" ++ z)) (names_end (n ∷ ns))
