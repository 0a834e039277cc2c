-- A small structure and its text.
use Rattle.std.proofs.Common.{◌≡◌, [], ◌∷◌, None, refl}
use Rattle.std.specs.Prelude.{codes}
use Rattle.nxf_tree.specs.declared.tree.Signature.{Signature}
use Rattle.nxf_tree.specs.declared.tree.SymbolEntry.{SymbolEntry}
use Rattle.nxf_tree.specs.declared.tree.IndexEntry.{IndexEntry}
use Rattle.nxf_tree.specs.declared.tree.IndexName.TheVariants.{Plain}
use Rattle.nxf_tree.specs.declared.tree.Designation.TheVariants.{Flexible}
use Rattle.nxf_tree.specs.declared.tree.Locality.TheVariants.{Global}
use Rattle.nxf_tree.specs.Rows.{Rows}
use Rattle.nxf_tree.specs.Structures.{KripkeStructure}
use Rattle.kripke_text_definitions.specs.KripkeText as text
use Rattle.kripke_text_definitions.specs.KripkeText.{access_word, world_word, interpretation_word}

abbrev p_entry : SymbolEntry
p_entry = record { name = codes "p"; args = []; gives = None; designation = Flexible; locality = Global }

abbrev plain_entry : IndexEntry
plain_entry = record { name = Plain; schemes = [] }

abbrev small : Signature
small = record { sorts = []; symbols = p_entry ∷ []; indexes = plain_entry ∷ [] }

abbrev two_worlds : KripkeStructure
two_worlds = record { worlds = 2; actual = 0; relations = ((0 ∷ 1 ∷ []) ∷ []) ∷ []; sizes = []; existing = []; symbols = Rows ((1 ∷ []) ∷ []) ∷ [] }

worked : text.ktext small two_worlds ≡ codes "tff(worlds,interpretation,! [W: $world] : ( W = \"w0\" | W = \"w1\" )).\ntff(local,interpretation,$local_world = \"w0\").\ntff(access,interpretation,$accessible_world(\"w0\",\"w1\")).\ntff(p,interpretation,$in_world(\"w1\",p)).\n"
unfolding access_word world_word interpretation_word
worked = refl
