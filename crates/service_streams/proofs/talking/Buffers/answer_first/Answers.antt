use Rattle.std.proofs.Common.{rules, ◌≡◌, ◌∙◌, ◌++◌, ◌-◌, ℕ, List, length, drop, false, true, true≢false, is_err, Ok, Err, Some, OnErr, OnOk, Result, Option, ap, refl, subst, sym}
use Rattle.service_records.specs.Framing.{IsCut, IsFront, cut_of, framed}
use Rattle.service_records.specs.declared.framing.Cut.{Cut}
use Rattle.service_streams.specs.Order.{AnswersFirst, Moment, Party}
use Rattle.service_streams.proofs.ActLemmas.{one_act}
use Rattle.service_streams.proofs.OrderLemmas.{answers_it, loses_it}
use Rattle.service_streams.proofs.StreamLemmas.{ok_of}
use Rattle.service_streams.proofs.talking.Buffers.answer_first.Goals as goal

of_err : {E : Type 0} (P : Type 0) (told : Result Unit E) → is_err told ≡ true → OnErr told P → P
of_err P (Ok x) is so = absurd (true≢false (sym is))
of_err P (Err e) is so = so

of_ok : {E : Type 0} (P : Type 0) (told : Result Unit E) → is_err told ≡ false → OnOk told P → P
of_ok P (Ok x) is so = so
of_ok P (Err e) is so = absurd (true≢false is)

pub returns-then-is_err-clause-acts : goal.returns-then-is_err-clause-acts
returns-then-is_err-clause-acts g c = one_act g.S.Seat.does c.in-Ok-Some.cut.record.now c.args.connection.now.seat c.answer_record.new.self.seat c.answer_record.ensures.calls

pub returns-then-is_err-2-clause-acts : goal.returns-then-is_err-2-clause-acts
returns-then-is_err-2-clause-acts g c = one_act g.S.Seat.does c.in-Ok-Some.cut.record.now c.args.connection.now.seat c.answer_record.new.self.seat c.answer_record.ensures.calls

pub returns-else-is_err-2-clause-acts : goal.returns-else-is_err-2-clause-acts
returns-else-is_err-2-clause-acts g c = one_act g.S.Seat.does c.in-Ok-Some.cut.record.now c.args.connection.now.seat c.answer_record.new.self.seat c.answer_record.ensures.calls

pub returns-then-is_err-clause-first : goal.returns-then-is_err-clause-first
returns-then-is_err-clause-first g c =
    let old : Party g.row.S.Denot = (c.args.connection.now.seat, c.args.connection.now.refusals) in
    let new : Party g.row.S.Denot = (c.answer_record.new.self.seat, c.answer_record.new.self.refusals) in
    let left = drop c.args.self.now.at c.args.self.now.input.items in
    let body = c.in-Ok-Some.cut.record.now in
    let rest = c.in-Ok-Some.cut.rest.now in
    let same : c.rest_of-left.result.now ≡ left = c.rest_of-left.ensures ∙ ap (λ (l : List ℕ). drop c.args.self.now.at l) c.as_slice.ensures.value in
    let fronts = subst (λ (o : Option Cut). IsFront (Ok o) c.rest_of-left.result.now) c.in-Ok-Some.field-0-is c.in-Ok-Some.ensures.front in
    let cuts = subst (λ (o : Option Cut). IsCut (Ok o) (cut_of c.rest_of-left.result.now)) c.in-Ok-Some.field-0-is c.in-Ok-Some.ensures.cut in
    let front : left ≡ framed body ++ rest = sym same ∙ fronts in
    let cut : cut_of left ≡ Ok (Some (body, rest)) = ap cut_of (sym same) ∙ cuts in
    loses_it g.S.Seat.does old new left body rest c.args.self.now.out.items c.args.self.now.out.items c.clear.new.self.items c.answer_record.new.out.items c.answer_record.result front cut c.answer_record.ensures.answered c.clear.ensures.items refl

pub returns-then-is_err-2-clause-first : goal.returns-then-is_err-2-clause-first
returns-then-is_err-2-clause-first g c =
    let old : Party g.row.S.Denot = (c.args.connection.now.seat, c.args.connection.now.refusals) in
    let new : Party g.row.S.Denot = (c.answer_record.new.self.seat, c.answer_record.new.self.refusals) in
    let left = drop c.args.self.now.at c.args.self.now.input.items in
    let body = c.in-Ok-Some.cut.record.now in
    let rest = c.in-Ok-Some.cut.rest.now in
    let same : c.rest_of-left.result.now ≡ left = c.rest_of-left.ensures ∙ ap (λ (l : List ℕ). drop c.args.self.now.at l) c.as_slice.ensures.value in
    let fronts = subst (λ (o : Option Cut). IsFront (Ok o) c.rest_of-left.result.now) c.in-Ok-Some.field-0-is c.in-Ok-Some.ensures.front in
    let cuts = subst (λ (o : Option Cut). IsCut (Ok o) (cut_of c.rest_of-left.result.now)) c.in-Ok-Some.field-0-is c.in-Ok-Some.ensures.cut in
    let front : left ≡ framed body ++ rest = sym same ∙ fronts in
    let cut : cut_of left ≡ Ok (Some (body, rest)) = ap cut_of (sym same) ∙ cuts in
    let kept : c.put_behind.new.out.items ≡ c.args.self.now.out.items =
    let is : is_err c.put_behind.result ≡ true = search rules in
    of_err (c.put_behind.new.out.items ≡ c.args.self.now.out.items) c.put_behind.result is c.put_behind.ensures.err in
    loses_it g.S.Seat.does old new left body rest c.args.self.now.out.items c.put_behind.new.out.items c.clear.new.self.items c.answer_record.new.out.items c.answer_record.result front cut c.answer_record.ensures.answered c.clear.ensures.items kept

pub returns-else-is_err-2-clause-first : goal.returns-else-is_err-2-clause-first
returns-else-is_err-2-clause-first g c =
    let old : Party g.row.S.Denot = (c.args.connection.now.seat, c.args.connection.now.refusals) in
    let new : Party g.row.S.Denot = (c.answer_record.new.self.seat, c.answer_record.new.self.refusals) in
    let at = c.args.self.now.at in
    let input = c.args.self.now.input.items in
    let body = c.in-Ok-Some.cut.record.now in
    let rest = c.in-Ok-Some.cut.rest.now in
    let same : c.rest_of-left.result.now ≡ drop at input = c.rest_of-left.ensures ∙ ap (λ (l : List ℕ). drop at l) c.as_slice.ensures.value in
    let fronts = subst (λ (o : Option Cut). IsFront (Ok o) c.rest_of-left.result.now) c.in-Ok-Some.field-0-is c.in-Ok-Some.ensures.front in
    let cuts = subst (λ (o : Option Cut). IsCut (Ok o) (cut_of c.rest_of-left.result.now)) c.in-Ok-Some.field-0-is c.in-Ok-Some.ensures.cut in
    let front : drop at input ≡ framed body ++ rest = sym same ∙ fronts in
    let cut : cut_of (drop at input) ≡ Ok (Some (body, rest)) = ap cut_of (sym same) ∙ cuts in
    let well : c.answer_record.result ≡ Ok tt = ok_of c.answer_record.result (let is : is_err c.answer_record.result ≡ false = search rules in is) in
    let kept : c.put_behind.new.out.items ≡ c.args.self.now.out.items ++ c.answer_record.new.out.items =
    let is : is_err c.put_behind.result ≡ false = search rules in
    of_ok (c.put_behind.new.out.items ≡ c.args.self.now.out.items ++ c.answer_record.new.out.items) c.put_behind.result is c.put_behind.ensures.ok in
    let place : length input - length rest ≡ c.saturating_sub-self.result = search rules in
    let answered = answers_it g.S.Seat.does old new at input body rest c.args.self.now.out.items c.put_behind.new.out.items c.clear.new.self.items c.answer_record.new.out.items c.answer_record.result front cut c.answer_record.ensures.answered c.clear.ensures.items well kept in
    let before : Moment g.row.S.Denot = record { party = old; left = drop at input; out = c.args.self.now.out.items } in
    let P : ℕ → Type 0 = λ n. let after : Moment g.row.S.Denot = record { party = new; left = drop n input; out = c.put_behind.new.out.items } in AnswersFirst g.S.Seat.does (Ok true) before after in
    subst P place answered
