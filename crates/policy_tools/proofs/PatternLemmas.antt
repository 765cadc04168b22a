-- What two patterns that pass have to do with the channels that they cover.
use Rattle.std.proofs.Common.{◌≡◌, ℕ, true, false, ◌||◌, List, [], ◌∷◌, ◌++◌, Option, Some, None, refl, sym, ◌∙◌, subst, nat_eq, ⊎_elim, inl, inr, unwrap_or, ◌==◌}
use Rattle.std.specs.Prelude.{◌⊎◌}
use Rattle.std.specs.List.{starts_with}
use Rattle.std.specs.Str.{bytes_eq}
use Rattle.std.proofs.lemmas.Bool.{and_parts, or_cases, or_left, or_right, eq-eqb, eqb-true, false≢true}
use Rattle.std.proofs.lemmas.Slice.Eq.{bytes_eq-Decides}
use Rattle.channel_uri.specs.Channel.{Shape}
use Rattle.channel_uri.specs.Keys.{Pair, value_at}
use Rattle.channel_uri.specs.Media.{media_number}
use Rattle.channel_uri.specs.Pattern.{all_fit, begins_with, covers, front_of, is_fit, value_fits}
use Rattle.channel_uri.specs.declared.pattern.Pattern.{Pattern}
use Rattle.channel_uri.specs.declared.pattern.Pattern.TheVariants.{Any, Of}
use Rattle.policy_tools.specs.Wider.{front_wider, value_wider}
use Rattle.policy_tools.proofs.WiderLemmas.{begins, begins_from, front_whole, is_fit_within, looked_up}
use Rattle.policy_tools.specs.Patterns.{keys_pass, passes_from, patterns_pass}
use Rattle.policy_tools.specs.declared.patterns.Relation.TheVariants.{Meets, Covers}

-- ---- texts that begin alike

-- of two fronts of one text one begins with the other
one_of_two : (one other a b : List ℕ) → one ++ a ≡ other ++ b → ((rest : List ℕ) × (other ≡ one ++ rest)) ⊎ ((rest : List ℕ) × (one ≡ other ++ rest))
one_of_two [] other a b is = inl (other, refl)
one_of_two (x ∷ one) [] a b is = inr (x ∷ one, refl)
one_of_two (x ∷ one) (y ∷ other) a b is =
    let head : x ≡ y = cc in
    let tail : one ++ a ≡ other ++ b = cc in
    ⊎_elim
    (λ longer. let rest : y ∷ other ≡ x ∷ (one ++ longer.0) = let e = longer.1 in cc in inl (longer.0, rest))
    (λ longer. let rest : x ∷ one ≡ y ∷ (other ++ longer.0) = let e = longer.1 in cc in inr (longer.0, rest))
    (one_of_two one other a b tail)

comparable : (text one other : List ℕ) → starts_with nat_eq text one ≡ true → starts_with nat_eq text other ≡ true →
    (starts_with nat_eq other one ≡ true) ⊎ (starts_with nat_eq one other ≡ true)
comparable text one other first second =
    let a = begins text one first in
    let b = begins text other second in
    ⊎_elim
    (λ longer. inl (begins_from other one longer.0 longer.1))
    (λ longer. inr (begins_from one other longer.0 longer.1))
    (one_of_two one other a.0 b.0 (sym a.1 ∙ b.1))

-- ---- values that fit

-- what fits a value with a final `*` begins with its front, and what fits another one is that value
fits_front : (wanted value front : List ℕ) → front_of wanted ≡ Some front → value_fits wanted value ≡ true → starts_with nat_eq value front ≡ true
fits_front wanted value front is fits =
    let whole = front_whole wanted front is in
    ⊎_elim
    (λ same. begins_from value front whole.0 (sym ((bytes_eq-Decides wanted value).0 same) ∙ whole.1))
    (λ starts. subst (λ (o : Option (List ℕ)). begins_with value o ≡ true) is starts)
    (or_cases (bytes_eq wanted value) (begins_with value (front_of wanted)) fits)

fits_whole : (wanted value : List ℕ) → front_of wanted ≡ None → value_fits wanted value ≡ true → wanted ≡ value
fits_whole wanted value is fits =
    ⊎_elim
    (λ same. (bytes_eq-Decides wanted value).0 same)
    (λ starts. absurd (let e : false ≡ true = subst (λ (o : Option (List ℕ)). begins_with value o ≡ true) is starts in cc))
    (or_cases (bytes_eq wanted value) (begins_with value (front_of wanted)) fits)

wider_from : (wide narrow front : List ℕ) → front_of wide ≡ Some front → starts_with nat_eq (unwrap_or (front_of narrow) narrow) front ≡ true → value_wider wide narrow ≡ true
wider_from wide narrow front is starts =
    or_right (bytes_eq wide narrow) (front_wider (front_of wide) narrow) (subst (λ (o : Option (List ℕ)). front_wider o narrow ≡ true) (sym is) starts)

-- of two values that one text fits, one is within the other
meet_from : (one other value : List ℕ) (first second : Option (List ℕ)) → front_of one ≡ first → front_of other ≡ second → value_fits one value ≡ true →
    value_fits other value ≡ true → (value_wider one other || value_wider other one) ≡ true
meet_from one other value None None a b fits also =
    let same : one ≡ other = fits_whole one value a fits ∙ sym (fits_whole other value b also) in
    or_left _ _ (or_left (bytes_eq one other) _ ((bytes_eq-Decides one other).1 same))
meet_from one other value (Some front) None a b fits also =
    let whole : other ≡ value = fits_whole other value b also in
    let starts : starts_with nat_eq other front ≡ true = subst (λ (text : List ℕ). starts_with nat_eq text front ≡ true) (sym whole) (fits_front one value front a fits) in
    or_left _ _ (wider_from one other front a (subst (λ (o : Option (List ℕ)). starts_with nat_eq (unwrap_or o other) front ≡ true) (sym b) starts))
meet_from one other value None (Some front) a b fits also =
    let whole : one ≡ value = fits_whole one value a fits in
    let starts : starts_with nat_eq one front ≡ true = subst (λ (text : List ℕ). starts_with nat_eq text front ≡ true) (sym whole) (fits_front other value front b also) in
    or_right _ _ (wider_from other one front b (subst (λ (o : Option (List ℕ)). starts_with nat_eq (unwrap_or o one) front ≡ true) (sym a) starts))
meet_from one other value (Some front) (Some back) a b fits also =
    ⊎_elim
    (λ within. or_left _ _ (wider_from one other front a (subst (λ (o : Option (List ℕ)). starts_with nat_eq (unwrap_or o other) front ≡ true) (sym b) within)))
    (λ within. or_right _ _ (wider_from other one back b (subst (λ (o : Option (List ℕ)). starts_with nat_eq (unwrap_or o one) back ≡ true) (sym a) within)))
    (comparable value front back (fits_front one value front a fits) (fits_front other value back b also))

-- ---- keys

both_fit : (one other : List ℕ) (value : Option (List ℕ)) → is_fit one value ≡ true → is_fit other value ≡ true → (value_wider one other || value_wider other one) ≡ true
both_fit one other None fits also = absurd (false≢true fits)
both_fit one other (Some value) fits also = meet_from one other value (front_of one) (front_of other) refl refl fits also

meets_from : (one key : List ℕ) (others keys : List Pair) (other : Option (List ℕ)) → value_at key others ≡ other → all_fit others keys ≡ true →
    is_fit one (value_at key keys) ≡ true → passes_from Meets one other ≡ true
meets_from one key others keys None is fits here = refl
meets_from one key others keys (Some other) is fits here = both_fit one other (value_at key keys) here (looked_up others keys key other is fits)

-- patterns of one medium that cover one channel meet
pairs_meet : (es others keys : List Pair) → all_fit es keys ≡ true → all_fit others keys ≡ true → keys_pass Meets es others ≡ true
pairs_meet [] others keys fits also = refl
pairs_meet (e ∷ es) others keys fits also =
    let both = and_parts (is_fit e.1 (value_at e.0 keys)) (all_fit es keys) fits in
    let here : passes_from Meets e.1 (value_at e.0 others) ≡ true = meets_from e.1 e.0 others keys (value_at e.0 others) refl also both.0 in
    rw here (pairs_meet es others keys both.1 also)

covers_from : (wide key : List ℕ) (narrow keys : List Pair) (other : Option (List ℕ)) → value_at key narrow ≡ other → all_fit narrow keys ≡ true →
    passes_from Covers wide other ≡ true → is_fit wide (value_at key keys) ≡ true
covers_from wide key narrow keys None is fits passes = absurd (false≢true passes)
covers_from wide key narrow keys (Some other) is fits passes = is_fit_within wide other (value_at key keys) passes (looked_up narrow keys key other is fits)

-- a channel that fits the keys of a covered pattern fits those of the one that covers it
pairs_cover : (es narrow keys : List Pair) → keys_pass Covers es narrow ≡ true → all_fit narrow keys ≡ true → all_fit es keys ≡ true
pairs_cover [] narrow keys passes fits = refl
pairs_cover (e ∷ es) narrow keys passes fits =
    let both = and_parts (passes_from Covers e.1 (value_at e.0 narrow)) (keys_pass Covers es narrow) passes in
    let here : is_fit e.1 (value_at e.0 keys) ≡ true = covers_from e.1 e.0 narrow keys (value_at e.0 narrow) refl fits both.0 in
    rw here (pairs_cover es narrow keys both.1 fits)

-- ---- patterns

same_number : (a b c : ℕ) → (a == c) ≡ true → (b == c) ≡ true → (a == b) ≡ true
same_number a b c first second = eq-eqb a b (eqb-true a c first ∙ sym (eqb-true b c second))

same_medium : (a b c : ℕ) → (a == b) ≡ true → (b == c) ≡ true → (a == c) ≡ true
same_medium a b c first second = eq-eqb a c (eqb-true a b first ∙ eqb-true b c second)

pub patterns_meet : (one other : Pattern) (channel : Shape) → covers one channel ≡ true → covers other channel ≡ true → patterns_pass Meets one other ≡ true
unfolding covers
patterns_meet Any other channel fits also = refl
patterns_meet (Of media keys) Any channel fits also = refl
patterns_meet (Of media keys) (Of medium others) channel fits also =
    let first = and_parts (media_number media == media_number channel.media) (all_fit keys channel.keys) fits in
    let second = and_parts (media_number medium == media_number channel.media) (all_fit others channel.keys) also in
    rw (same_number _ _ _ first.0 second.0) (pairs_meet keys others channel.keys first.1 second.1)

pub patterns_cover : (wide narrow : Pattern) (channel : Shape) → patterns_pass Covers wide narrow ≡ true → covers narrow channel ≡ true → covers wide channel ≡ true
unfolding covers
patterns_cover Any narrow channel passes fits = refl
patterns_cover (Of media keys) Any channel passes fits = absurd (false≢true passes)
patterns_cover (Of media keys) (Of medium others) channel passes fits =
    let first = and_parts (media_number media == media_number medium) (keys_pass Covers keys others) passes in
    let second = and_parts (media_number medium == media_number channel.media) (all_fit others channel.keys) fits in
    rw (same_medium _ _ _ first.0 second.0) (pairs_cover keys others channel.keys first.1 second.1)
