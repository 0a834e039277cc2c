use Rattle.std.proofs.Common.{◌≡◌, [], length, take}
use Rattle.std.specs.Prelude.{flat_map}
use Rattle.indexmap.specs.IndexSet.{insert_all}
use Rattle.nxf_tree.specs.Names.{same_text}
use Rattle.interpretation_definitions.specs.Context.{and_listings, listings_of, declared_by}
use Rattle.interpretation_parts.specs.steps.Items.{parts_in_items}
use Rattle.interpretation_parts.specs.steps.Tables.{Counted}
use Rattle.interpretation_parts.proofs.context.said_by.Given as goal

abbrev pub invariant-loop-item : goal.invariant-loop-item
invariant-loop-item l = record {
  listed : l.elements.entries ≡ and_listings [] (flat_map (listings_of l.known.over.now.sorts) (parts_in_items (take l.item-index l.items)));
  counted : Counted l.elements.entries l.counts.items;
  count : length l.counts.items ≡ length l.known.over.now.sorts;
  declared : l.declared.keys ≡ insert_all same_text [] (flat_map declared_by (parts_in_items (take l.item-index l.items)));
}
