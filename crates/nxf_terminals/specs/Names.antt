-- Words among the names.
use Rattle.std.specs.Prelude.{ℕ, Bool, true, false, if◌then◌else◌, ◌==◌, List, [], ◌∷◌}

-- a word, where the spelling is that of a name: one that isn't quoted
abbrev pub is_word : List ℕ → Bool
is_word [] = false
is_word (b ∷ bs) = if b == 39 then false else true
