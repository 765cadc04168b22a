use Rattle.std.proofs.Common.{◌≡◌, ℕ, List, ◌∷◌, ◌++◌, [], sym, ap, ◌∙◌, subst}
use Rattle.std.specs.Prelude.{vec_capacity}
use Rattle.frame_codec.specs.Frame.{Sent, sent}
use Rattle.frame_codec.specs.Frames.{frames_left}
use Rattle.image_log.specs.Log.{Log}
use Rattle.image_log.specs.Rebuilt.{Rebuilt}
use Rattle.image_log.specs.Stored.{Held}
use Rattle.image_log.specs.declared.insert.Insert.{Insert}
use Rattle.log_traffic.specs.Receiving.{after_frame, after_frames, word_of, words_of}
use Rattle.log_traffic.proofs.ReceivingLemmas.{IsHanding, one_more}
use Rattle.log_traffic.proofs.receiving.hand_in_all.Goals as goal

pub loop-frame-preserved : goal.loop-frame-preserved
loop-frame-preserved c =
    let log : Log = c.loop-frame.log in
    let frame : Sent = sent c.in-Some.frame in
    let left : List Sent = frames_left c.next.new.self in
    let words : List Insert = c.loop-frame.words.items in
    let room : ℕ = vec_capacity c.loop-frame.words in
    let first : List Sent = frames_left c.into_iter-frame-iterator.result in
    let all : List Insert = c.args.words.now.items ++ words_of c.args.log.now.rebuilt first in
    let end : Rebuilt = after_frames c.args.log.now.rebuilt first in
    let held : Held = c.args.log.now.held in
    let beside : List ℕ = c.args.log.now.beside in
    let before : IsHanding log (frame ∷ left) words room all end held beside =
    subst (λ (gs : List Sent). IsHanding log gs words room all end held beside) c.in-Some.ensures.steps c.loop-frame.invariant in
    let after = one_more log frame left words room all end held beside before in
    let told : c.push_reserved.new.self.items ≡ words ++ word_of log.rebuilt frame ∷ [] =
    c.push_reserved.ensures.items ∙ ap (λ (w : Insert). words ++ w ∷ []) c.hand_in.ensures.word in
    subst (λ (l : Log). IsHanding l left c.push_reserved.new.self.items (vec_capacity c.push_reserved.new.self) all end held beside) (sym c.hand_in.ensures.after)
    (subst (λ (ws : List Insert). IsHanding (record log { rebuilt = after_frame log.rebuilt frame }) left ws (vec_capacity c.push_reserved.new.self) all end held beside) (sym told)
    (subst (λ (n : ℕ). IsHanding (record log { rebuilt = after_frame log.rebuilt frame }) left (words ++ word_of log.rebuilt frame ∷ []) n all end held beside) (sym c.push_reserved.ensures.capacity) after))
