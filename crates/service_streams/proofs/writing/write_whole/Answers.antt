use Rattle.std.proofs.Common.{rules, ◌≡◌, ◌∙◌, ◌++◌, ℕ, List, Option, length, take, drop, append_assoc, ap, sym, Bor}
use Rattle.std.proofs.KnownBytes.{Appends-kept, Appends-trans}
use Rattle.std.proofs.lemmas.List.{take-append-drop}
use Rattle.std.specs.Io.KnownBytes.{Appends, Keeps}
use Rattle.service_streams.proofs.StreamLemmas.{wrote_whole}
use Rattle.service_streams.proofs.writing.write_whole.Goals.{in-Ok, in-Err}
use Rattle.service_streams.proofs.writing.write_whole.Goals as goal

-- more of the text is written
more_pieces : (a b c : Option (List ℕ)) (text front rest left : List ℕ) (n : ℕ) → text ≡ front ++ rest → Appends a b front → Appends b c (take n rest) → left ≡ drop n rest →
    (x : List ℕ) × (text ≡ x ++ left) × Appends a c x
more_pieces a b c text front rest left n whole appended more is = (
  front ++ take n rest,
  whole ∙ (ap (λ (l : List ℕ). front ++ l) (sym (take-append-drop n rest)) ∙ (sym (append_assoc front (take n rest) (drop n rest)) ∙ ap (λ (l : List ℕ). (front ++ take n rest) ++ l) (sym is))),
  Appends-trans a b c front (take n rest) appended more,
)

-- or none of it
same_pieces : (a b c : Option (List ℕ)) (text front rest left : List ℕ) → text ≡ front ++ rest → Appends a b front → Keeps b c → left ≡ rest →
    (x : List ℕ) × (text ≡ x ++ left) × Appends a c x
same_pieces a b c text front rest left whole appended kept is = (
  front,
  whole ∙ ap (λ (l : List ℕ). front ++ l) (sym is),
  Appends-kept a b c front appended kept,
)

pub returns-then-is_empty-clause-whole : goal.returns-then-is_empty-clause-whole
returns-then-is_empty-clause-whole g c =
    let written = c.pieces.invariant in
    let none : length c.pieces.rest.now ≡ 0 = search rules in
    λ all. wrote_whole _ _ c.args.bytes.now written.0 c.pieces.rest.now written.1 written.2 none

pub returns-then-is_empty-clause-front : goal.returns-then-is_empty-clause-front
returns-then-is_empty-clause-front g c = (c.pieces.invariant.0, c.pieces.rest.now, c.pieces.invariant.1, c.pieces.invariant.2)

pub pieces-preserved : goal.pieces-preserved
pieces-preserved g c =
    let contents = g.T.Write.contents in
    let written = c.pieces.invariant in
    elim c.match-write.branch [
      | in-Ok w ↦
          let is : c.match-write.rest.now ≡ drop w.in-Ok.count c.pieces.rest.now = ap (λ (r : Bor (List ℕ)). r.now) w.rest-is ∙ w.split_at.ensures.back in
          more_pieces (contents c.args.stream.now) (contents c.pieces.stream) (contents c.write.new.self) c.args.bytes.now written.0 c.pieces.rest.now c.match-write.rest.now w.in-Ok.count written.1 written.2 w.in-Ok.ensures.bytes is
      | in-Err w ↦
          let is : c.match-write.rest.now ≡ c.pieces.rest.now = ap (λ (r : Bor (List ℕ)). r.now) w.rest-is in
          same_pieces (contents c.args.stream.now) (contents c.pieces.stream) (contents c.write.new.self) c.args.bytes.now written.0 c.pieces.rest.now c.match-write.rest.now written.1 written.2 w.in-Err.ensures.bytes is
    ]
