-- What is read of an argument depends on the rows that clap found alone.
use Rattle.std.proofs.Common.{◌≡◌, ◌∙◌, ℕ, Bool, true, false, List, [], ◌∷◌, Option, Some, None, ap, refl, sym, is_some, map, option_map, slice_get, find, IfSome, inl, inr, ⊎_elim}
use Rattle.std.specs.Prelude.{option_and_then, Box}
use Rattle.std.specs.Borrow.{Bor}
use Rattle.std.specs.Box.{box_value}
use Rattle.std.specs.List.{AllByRecursion}
use Rattle.std.specs.Str.{bytes_eq}
use Rattle.clap.specs.Facts.{Entry}
use Rattle.clap.specs.Values.{read_as}
use Rattle.clap.specs.Walk.{Row, row_of, texts}
use Rattle.clap.specs.Words.{first_of, first_value, one_of, one_text, rows_of, subcommand_name_of, subcommand_rows, subcommand_rows_of}
use Rattle.clap.specs.declared.builder.value_parser.Reading.{Reading}
use Rattle.clap.specs.declared.parser.matches.ArgMatches.{ArgMatches}
use Rattle.clap.specs.declared.parser.matches.ArgMatches.TheViews.{out-ArgMatches, out-SubCommand}
use Rattle.clap.specs.declared.parser.matches.Found.{Found}
use Rattle.clap.specs.declared.parser.matches.SubCommand.{SubCommand}
use Rattle.command_line.specs.Tasks.{AreFound, IsTask, task_name, task_numbers, task_texts}
use Rattle.command_line.specs.declared.whole_line.Task.{Task}
use Rattle.command_line.specs.Needs.{Answers, HasAll, HasNumber, HasSigned, HasText, Needs, StandTogether}

-- ---- one argument

value_first : (values : List (Bor (List ℕ))) → option_map (λ s. s.now) (slice_get values 0) ≡ slice_get (texts values) 0
value_first [] = refl
value_first (value ∷ values) = refl

value_read : (how : Reading) (values : List (Bor (List ℕ))) →
    option_map (λ s. read_as how s.now) (slice_get values 0) ≡ option_map (read_as how) (slice_get (texts values) 0)
value_read how [] = refl
value_read how (value ∷ values) = refl

first_step : (id : List ℕ) (e : Entry) (es : List Entry) (b : Bool) → bytes_eq e.0.now id ≡ b →
    option_and_then (λ a. option_map (λ s. s.now) (slice_get a.vals.items 0)) (option_map (λ x. x.1) (find (λ x. bytes_eq x.0.now id) es)) ≡ first_of id (map row_of es) →
    option_and_then (λ a. option_map (λ s. s.now) (slice_get a.vals.items 0)) (option_map (λ x. x.1) (find (λ x. bytes_eq x.0.now id) (e ∷ es))) ≡ first_of id (map row_of (e ∷ es))
first_step id e es true is later = rw is (value_first e.1.vals.items)
first_step id e es false is later = rw is later

first_at : (id : List ℕ) (es : List Entry) →
    option_and_then (λ a. option_map (λ s. s.now) (slice_get a.vals.items 0)) (option_map (λ x. x.1) (find (λ x. bytes_eq x.0.now id) es)) ≡ first_of id (map row_of es)
first_at id [] = refl
first_at id (e ∷ es) = first_step id e es (bytes_eq e.0.now id) refl (first_at id es)

one_step : (id : List ℕ) (e : Entry) (es : List Entry) (b : Bool) → bytes_eq e.0.now id ≡ b →
    option_and_then (λ a. option_map (λ s. read_as a.reading s.now) (slice_get a.vals.items 0)) (option_map (λ x. x.1) (find (λ x. bytes_eq x.0.now id) es)) ≡ one_of id (map row_of es) →
    option_and_then (λ a. option_map (λ s. read_as a.reading s.now) (slice_get a.vals.items 0)) (option_map (λ x. x.1) (find (λ x. bytes_eq x.0.now id) (e ∷ es))) ≡ one_of id (map row_of (e ∷ es))
one_step id e es true is later = rw is (value_read e.1.reading e.1.vals.items)
one_step id e es false is later = rw is later

one_at : (id : List ℕ) (es : List Entry) →
    option_and_then (λ a. option_map (λ s. read_as a.reading s.now) (slice_get a.vals.items 0)) (option_map (λ x. x.1) (find (λ x. bytes_eq x.0.now id) es)) ≡ one_of id (map row_of es)
one_at id [] = refl
one_at id (e ∷ es) = one_step id e es (bytes_eq e.0.now id) refl (one_at id es)

-- ---- equal rows

same_first : (one other : Found) (id : List ℕ) → rows_of one ≡ rows_of other → first_value one id ≡ first_value other id
same_first one other id same = first_at id one.entries.items ∙ (ap (first_of id) same ∙ sym (first_at id other.entries.items))

same_one : (one other : Found) (id : List ℕ) → rows_of one ≡ rows_of other → one_text one id ≡ one_text other id
same_one one other id same = one_at id one.entries.items ∙ (ap (one_of id) same ∙ sym (one_at id other.entries.items))

each : {T : Type 0} (P Q : T → Type 0) → ((x : T) → P x → Q x) → (xs : List T) → AllByRecursion P xs → AllByRecursion Q xs
each P Q turn [] all = tt
each P Q turn (x ∷ xs) all = (turn x all.0, each P Q turn xs all.1)

has_text : (one other : Found) (id : List ℕ) → rows_of one ≡ rows_of other → HasText one id → HasText other id
has_text one other id same has = ap is_some (sym (same_first one other id same)) ∙ has

has_signed : (one other : Found) (id : List ℕ) → rows_of one ≡ rows_of other → HasSigned one id → HasSigned other id
has_signed one other id same has = (has.0, sym (same_one one other id same) ∙ has.1, has.2, has.3)

stand_together : (one other : Found) (pair : List ℕ × List ℕ) → rows_of one ≡ rows_of other → StandTogether one pair → StandTogether other pair
stand_together one other pair same =
    ⊎_elim
    (λ neither. inl (sym (same_first one other pair.0 same) ∙ neither.0, sym (same_first one other pair.1 same) ∙ neither.1))
    (λ both. inr (has_text one other pair.0 same both.0, has_text one other pair.1 same both.1, has_signed one other pair.1 same both.2))

has_all : (one other : Found) (needs : Needs) → rows_of one ≡ rows_of other → HasAll one needs → HasAll other needs
has_all one other needs same all = record {
  texts = each (HasText one) (HasText other) (λ id. has_text one other id same) needs.texts all.texts;
  signed = each (HasSigned one) (HasSigned other) (λ id. has_signed one other id same) needs.signed all.signed;
  numbers = each (HasNumber one) (HasNumber other) (λ id has. (has.0, sym (same_one one other id same) ∙ has.1, has.2, has.3)) needs.numbers all.numbers;
  together = each (StandTogether one) (StandTogether other) (λ pair. stand_together one other pair same) needs.together all.together;
}

pub answers_by_rows : {T : Type 0} (one other : Found) (first second : List ℕ) (needs : List (List ℕ × Needs)) (result : Option T) → rows_of other ≡ rows_of one → second ≡ first →
    Answers one first needs result → Answers other second needs result
answers_by_rows one other first second [] result same name all = tt
answers_by_rows one other first second (need ∷ needs) result same name all =
    ((λ is has. all.0 (sym name ∙ is) (has_all other one need.1 same has)), answers_by_rows one other first second needs result same name all.1)

-- ---- the subcommand that was entered

names_alike : {Z : Type 0} (entered : Option (Box SubCommand Z)) →
    option_map (λ b. (out-SubCommand (box_value b)).name.now) entered ≡ option_map (λ p. p.0) (subcommand_rows entered)
names_alike None = refl
names_alike (Some box) = refl

entered_from : (entered : Option (List ℕ × List Row)) (name : List ℕ) (rows : List Row) → Some name ≡ option_map (λ p. p.0) entered → Some rows ≡ option_map (λ p. p.1) entered →
    entered ≡ Some (name, rows)
entered_from None name rows first second = absurd (cc)
entered_from (Some pair) name rows first second =
    let one : name ≡ pair.0 = cc in
    let other : rows ≡ pair.1 = cc in
    rw (one, other) refl

pub entered_is : (matches : ArgMatches) (name : List ℕ) (rows : List Row) → Some name ≡ subcommand_name_of matches → Some rows ≡ option_map (λ p. p.1) (subcommand_rows_of matches) →
    subcommand_rows_of matches ≡ Some (name, rows)
entered_is matches name rows first second =
    entered_from (subcommand_rows_of matches) name rows (first ∙ names_alike (out-ArgMatches matches).subcommand) second

pub task_is : (matches : ArgMatches) (found : Found) (name : List ℕ) (result : Option Task) → subcommand_rows_of matches ≡ Some (name, rows_of found) →
    IfSome result (λ task. name ≡ task_name task) → IfSome result (λ task. AreFound found (task_texts task) (task_numbers task)) → IfSome result (λ task. IsTask matches task)
task_is matches found name None entered named given = tt
task_is matches found name (Some task) entered named given =
    record { found = found; entered = entered ∙ ap (λ n. Some (n, rows_of found)) named; given = given }
