-- A list of libraries: its files, and what a load does to it.
use Rattle.std.specs.Prelude.{◌≡◌, ℕ, ◌⊎◌, List, map, [], ◌∷◌, ◌++◌, Option, None, Some, IfSome, Ok}
use Rattle.std.specs.FinMap as files
use Rattle.std.specs.declared.alloc.Global.{Global}
use Rattle.std.specs.declared.dyn_box.DynBox.{DynBox}
use Rattle.nxf_base.specs.Causes.{Rose}
use Rattle.nxf_base.specs.Files.{Files}
use Rattle.nxf_base.specs.Shelf as one
use Rattle.nxf_base.specs.Shelf.{Shelf}
use Rattle.syntax_definitions.specs.declared.gather_error.GatherError.{GatherError}
use Rattle.syntax_definitions.specs.Loading.{loaded}
use Rattle.syntax_definitions.specs.Refusals.{Refuses}
use Rattle.nxf_include.specs.declared.roots.Roots.{Roots}

-- What the libraries tell, in their order. A clause names what one in a box tells by `shelf` alone: `shelves_of shelf roots.now`.
abbrev pub shelves_of : {X : Type 0} {F : X → Type 0} → (DynBox X Global F → Shelf) → Roots X F → List Shelf
shelves_of shelf roots = map shelf roots.libraries.items

-- two maps as one: the first has the say
abbrev pub over : Files → Files → Files
over first others = files.from_entries (files.entries first ++ files.entries others)

abbrev pub over_told : Option Files → Option Files → Option Files
over_told (Some first) (Some others) = Some (over first others)
over_told _ _ = None

-- The files of a list, where every library tells its own: each name has the bytes of the first library that has it.
abbrev pub files_of : List Shelf → Option Files
files_of [] = Some files.empty
files_of (shelf ∷ shelves) = over_told shelf.files (files_of shelves)

-- every library tells the files that it told, and no count fell
abbrev pub KeepEach : List Shelf → List Shelf → Type 0
KeepEach [] [] = Unit {0}
KeepEach (x ∷ xs) (y ∷ ys) = one.Keeps x y × KeepEach xs ys
KeepEach _ _ = ⊥

-- the count of faults of some library rose
abbrev pub SomeFaultRose : List Shelf → List Shelf → Type 0
SomeFaultRose (x ∷ xs) (y ∷ ys) = Rose x.faults y.faults ⊎ SomeFaultRose xs ys
SomeFaultRose _ _ = ⊥

-- the count of misses of every library rose
abbrev pub EachMissRose : List Shelf → List Shelf → Type 0
EachMissRose [] [] = Unit {0}
EachMissRose (x ∷ xs) (y ∷ ys) = Rose x.misses y.misses × EachMissRose xs ys
EachMissRose _ _ = ⊥

-- where every library tells its files, these are the bytes of the one with the name, or it is refused for this reason
abbrev pub TellBytes : List Shelf → List ℕ → List ℕ → Type 0
TellBytes shelves name bytes = IfSome (files_of shelves) (λ files. loaded files name ≡ Ok bytes)

abbrev pub TellRefusal : List Shelf → List ℕ → GatherError → Type 0
TellRefusal shelves name = Refuses (files_of shelves) (λ files. loaded files name)
