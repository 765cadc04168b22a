-- Frames that name the log's session and stream.
use Rattle.std.proofs.Common.{◌≡◌, ℕ, zero, suc, ◌<◌, ◌≤◌, Bool, List, [], ◌∷◌, length, arith}
use Rattle.std.specs.List.{insert}
use Rattle.std.specs.Prelude.{filter}
use Rattle.image_log.specs.Frame.{Frame, framed}
use Rattle.image_log.specs.Handed.{AreFor, IsFor, span_of}
use Rattle.image_log.specs.Reading.{AreHeaded, cut_to, is_pad, sent_size}
use Rattle.image_log.specs.Stored.{frame_at}
use Rattle.image_log.specs.declared.ident.Ident.{Ident}
use Rattle.image_log.proofs.Tests.{by_test}
use Rattle.std.proofs.Common.{ltb, ◌-◌}

pub for_filter : (ident : Ident) (t : Frame → Bool) (fs : List Frame) → AreFor ident fs → AreFor ident (filter t fs)
for_filter ident t [] are = tt
for_filter ident t (f ∷ fs) are =
    let rest = for_filter ident t fs are.2 in
    by_test (t f) (λ e. rw e (are.0, are.1, rest)) (λ e. rw e rest)

pub for_put : (ident : Ident) (p s at : ℕ) (bytes : List ℕ) (fs : List Frame) → AreFor ident fs → IsFor ident p bytes → s ≡ span_of bytes
    → AreFor ident (insert fs at (framed p s bytes))
for_put ident p s zero bytes fs are of spans = (of, spans, are)
for_put ident p s (suc at) bytes [] are of spans = (of, spans, tt)
for_put ident p s (suc at) bytes (f ∷ fs) are of spans = (are.0, are.1, for_put ident p s at bytes fs are.2 of spans)

pub for_cut : (ident : Ident) (bytes : ℕ) (fs : List Frame) → AreFor ident fs → AreFor ident (cut_to bytes fs)
for_cut ident bytes [] are = tt
for_cut ident bytes (f ∷ fs) are =
    let rest = for_cut ident (bytes - sent_size f) fs are.2 in
    by_test (ltb bytes (sent_size f))
    (λ e. rw e tt)
    (λ e. by_test (is_pad f) (λ t. rw (e, t) (are.0, are.1, tt)) (λ t. rw (e, t) (are.0, are.1, rest)))

pub headed : (ident : Ident) (fs : List Frame) → AreFor ident fs → AreHeaded fs
headed ident [] are = tt
headed ident (f ∷ fs) are = (are.0.sound.header, headed ident fs are.2)

pub headed_at : (fs : List Frame) (i : ℕ) → AreHeaded fs → i < length fs → 32 ≤ length (frame_at fs i).bytes
headed_at [] i are h = absurd (omega arith)
headed_at (f ∷ fs) zero are h = are.0
headed_at (f ∷ fs) (suc i) are h = headed_at fs i are.1 (omega arith)
