-- The tail goes on, and all before it is written.
use Rattle.std.proofs.Common.{◌≡◌, ℕ, ℤ, ◌+◌, ◌%◌, ◌<◌, ◌∙◌, sym, ap, arith, rules}
use Rattle.std.proofs.lemmas.Bool.Decides.{nat_tests}
use Rattle.term_log.specs.Buffers.{Filled}
use Rattle.term_log.proofs.Offsets.{term_within}
use Rattle.term_log.proofs.Places.{mod_full, mod_within}
use Rattle.term_log.proofs.appender.Appender.step.Goals as goal

-- the newest term is not full yet
pub invariant_of-self-else-full : goal.invariant_of-self-else-full
invariant_of-self-else-full c =
    let s = c.self.inside in
    let sound = c.self.invariant in
    let term_low = sound.ident.term_low in
    let fits = rw (← c.self.view_is) at c.requires.fits in
    let ends = rw (← c.self.view_is) at c.requires.ends in
    let more = c.if-full.false in
    let settled = ap (λ (b : Filled). b.filled) c.settle.ensures in
    let filled = ap (λ (b : Filled). b.filled) c.fill.ensures in
    let within : s.tail % s.ident.term_length + c.args.span < s.ident.term_length = omega (arith, fits, more) in
    record {
      ident = sound.ident;
      same = ap (λ (b : Filled). b.seen.term_length) c.settle.ensures ∙ ap (λ (b : Filled). b.seen.term_length) c.fill.ensures ∙ sound.same;
      low = omega arith;
      high = omega (arith, ends);
      aligned = omega (arith, c.requires.aligned, sound.aligned);
      counted = omega (arith, c.requires.counted, sound.counted);
      offset_is = ap (λ (n : ℕ). n + c.args.span) sound.offset_is ∙ sym (mod_within s.tail c.args.span s.ident.term_length (omega arith) within);
      term_is = sound.term_is ∙ sym (term_within s.ident.initial_term s.tail c.args.span s.ident.term_length within);
      written = grind (arith, nat_tests, more, settled, filled);
    }

-- it is full, and the tail is the start of a new one
pub invariant_of-self : goal.invariant_of-self
invariant_of-self c =
    let s = c.self.inside in
    let sound = c.self.invariant in
    let term_low = sound.ident.term_low in
    let ends = rw (← c.self.view_is) at c.requires.ends in
    let length = c.from.ensures in
    let offset = sound.offset_is in
    let next : (s.tail + c.args.span) % s.ident.term_length ≡ 0 =
    mod_full s.tail c.args.span s.ident.term_length (omega arith) (omega (arith, c.if-full.true, length, offset)) in
    let offset_is : c.from-self-inside.result ≡ (s.tail + c.args.span) % s.ident.term_length =
    c.from-self-inside.ensures ∙ ap (λ (p : ℤ × ℕ). p.1) c.term_of-term_id.ensures in
    record {
      ident = sound.ident;
      same = ap (λ (b : Filled). b.seen.term_length) c.settle.ensures ∙ ap (λ (b : Filled). b.seen.term_length) c.fill.ensures ∙ sound.same;
      low = omega arith;
      high = omega (arith, ends);
      aligned = omega (arith, c.requires.aligned, sound.aligned);
      counted = omega (arith, c.requires.counted, sound.counted);
      offset_is = offset_is;
      term_is = search rules;
      written = omega (arith, offset_is, next);
    }
