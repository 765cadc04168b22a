-- What becomes of a frame among others.
use Rattle.std.specs.Prelude.{ℕ, if◌then◌else◌, List}
use Rattle.std.specs.List.{list_any}
use Rattle.image_log.specs.Frame.{Frame}
use Rattle.image_log.specs.Order.{is_same, meets}
use Rattle.image_log.specs.declared.insert.Insert.{Insert}
use Rattle.image_log.specs.declared.insert.Insert.TheVariants.{Taken, Repeat, Overlap}

-- the same stands there, or a frame is met, or neither
abbrev pub answer_among : ℕ → ℕ → List ℕ → List Frame → Insert
answer_among p end bytes fs =
    if list_any (is_same p bytes) fs then Repeat
    else if list_any (meets p end) fs then Overlap
    else Taken
