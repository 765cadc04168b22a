-- The list of images, row by row.
use Rattle.std.proofs.Common.{◌≡◌, ◌+◌, ◌<◌, ℕ, List, [], ◌∷◌, ◌++◌, Option, Some, None, ap, get_or, length, refl, sym, take, ◌∙◌}
use Rattle.std.proofs.lemmas.List.{append-nil, take_more}
use Rattle.std.proofs.lemmas.List.Elements.{filter_map-append}
use Rattle.std.specs.Prelude.{filter_map}
use Rattle.media_agents.specs.declared.listing.ImageAt.{ImageAt}
use Rattle.media_agents.specs.Finding.{image_in, with_image}
use Rattle.media_agents.proofs.FindingLemmas.{take_again}
use Rattle.stream_registry.specs.declared.row.LogRow.{LogRow}

joined : (before : List ImageAt) (one : LogRow) (image : Option ImageAt) → image_in one ≡ image
    → with_image image (take 512 before) ≡ take 512 (before ++ filter_map image_in (one ∷ []))
joined before one None is =
    let none : filter_map image_in (one ∷ []) ≡ [] = rw is refl in
    ap (take 512) (sym (append-nil before) ∙ ap (λ (more : List ImageAt). before ++ more) (sym none))
joined before one (Some image) is =
    let some : filter_map image_in (one ∷ []) ≡ image ∷ [] = rw is refl in
    take_again 512 before (image ∷ []) ∙ ap (λ (more : List ImageAt). take 512 (before ++ more)) (sym some)

-- one row more
pub images_more : (rows : List LogRow) (at : ℕ) (one : LogRow) (old new : List ImageAt) → at < length rows
    → one ≡ get_or rows at one
    → old ≡ take 512 (filter_map image_in (take at rows))
    → new ≡ with_image (image_in one) old
    → new ≡ take 512 (filter_map image_in (take (at + 1) rows))
images_more rows at one old new within is before added =
    let rest : List ImageAt = filter_map image_in (take at rows) in
    let whole : filter_map image_in (take (at + 1) rows) ≡ rest ++ filter_map image_in (one ∷ []) =
    ap (filter_map image_in) (take_more rows at one within)
    ∙ ap (λ (last : LogRow). filter_map image_in (take at rows ++ last ∷ [])) (sym is)
    ∙ filter_map-append image_in (take at rows) (one ∷ []) in
    added
    ∙ ap (with_image (image_in one)) before
    ∙ joined rest one (image_in one) refl
    ∙ ap (take 512) (sym whole)
