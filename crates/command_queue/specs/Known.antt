-- Whose knowledge a pass of a queue is.
use Rattle.std.specs.Prelude.{◌≡◌, []}
use Rattle.atomic_table.specs.Seated.{TableId}
use Rattle.crossbeam_queue.specs.Passes.{Pass, view}
use Rattle.command_queue.specs.declared.known.Facts.{Facts}
use Rattle.command_queue.specs.declared.letter.Letter.{Letter}
use Rattle.command_queue.specs.declared.rule.View.{View}

module _ {E : Type 0} where
  -- it is of this queue
  abbrev pub IsKnown : TableId → Pass (Letter E) (View E) → Type 0
  IsKnown queue known = (known.table_id ≡ queue) × (known.me.1 ≡ [])

  -- what it says
  abbrev pub facts_of : Pass (Letter E) (View E) → Facts E
  facts_of known = (view known).facts

  -- it is of this queue, and says just this
  abbrev pub Tells : TableId → Facts E → Pass (Letter E) (View E) → Type 0
  Tells queue facts known = IsKnown queue known × (facts_of known ≡ facts)
