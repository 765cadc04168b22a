use Rattle.std.proofs.Common.{◌≡◌, ℕ, inl, inr, List, length, sym, ap, ◌∙◌, subst, arith}
use denote.RawPtr.{InBlock, Ptr, ◌+ₚ◌}
use Rattle.log_arena.specs.Homes.{Home}
use Rattle.log_arena.specs.Lease.{ShareNoPage, lease_home}
use Rattle.log_arena.specs.declared.lease.Lease.{Lease}
use Rattle.log_arena.proofs.Matches.{from_back, places_apart, placed_from}
use Rattle.log_arena.proofs.laws.share_no_page.Goals as goal

pub returns-clause-apart : goal.returns-clause-apart
unfolding ShareNoPage
returns-clause-apart c =
    λ same k h h'.
    let a = c.args.first in let b = c.args.second in let base = (lease_home a).base in
    let run = c.into_run-run.result.1 in let other = c.into_run-other.result.1 in
    let ptr : run.ptr ≡ base +ₚ a.place =
    c.into_run-run.ensures.1 ∙ ap (λ (l : Lease). l.bytes.ptr) c.start-start.ensures.unchanged ∙ from_back a.bytes.ptr a.place a.housed.behind in
    let ptr' : other.ptr ≡ base +ₚ b.place =
    c.into_run-other.ensures.1 ∙ ap (λ (l : Lease). l.bytes.ptr) c.start-other_start.ensures.unchanged ∙ from_back b.bytes.ptr b.place b.housed.behind
    ∙ ap (λ (home : Home). home.base +ₚ b.place) (sym same) in
    let long : length run.items ≡ a.bytes.len =
    ap (λ (l : List ℕ). length l) c.into_run-run.ensures.2 ∙ ap (λ (l : Lease). length l.bytes.items) c.start-start.ensures.unchanged ∙ sym a.bytes.ok.0 in
    let long' : length other.items ≡ b.bytes.len =
    ap (λ (l : List ℕ). length l) c.into_run-other.ensures.2 ∙ ap (λ (l : Lease). length l.bytes.items) c.start-other_start.ensures.unchanged ∙ sym b.bytes.ok.0 in
    let placed = placed_from base a.place (subst (λ (p : Ptr). InBlock p) ptr c.apart-run.ensures.2) in
    let apart = places_apart base a.place (length run.items) b.place (length other.items) run.ptr other.ptr placed ptr ptr' c.apart-run.ensures.3 in
    elim apart [ inl e ↦ absurd (omega (arith, h, h', long)) | inr e ↦ absurd (omega (arith, h, h', long')) ]
