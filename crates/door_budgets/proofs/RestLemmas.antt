-- What the clients of a door take in a time who rest for it.
use Rattle.std.proofs.Common.{ℕ, ◌+◌, ◌-◌, ◌<◌, ◌≤◌, ◌^◌, ◌==◌, ◌≡◌, Bool, true, false, refl, max, min, List, [], ◌∷◌, if◌then◌else◌, map, arith}
use Rattle.std.proofs.lemmas.Grind.{common_steps}
use Rattle.door_budgets.specs.Laws.{IsRested, Rests, Spell, after, after_all, due, dues}
use Rattle.door_budgets.specs.Taking.{after_taking_by, rest_for, rest_of}
use Rattle.door_budgets.specs.declared.taken.Taken.{Taken}

-- nothing of a spell is forgiven
not_forgiven : (even now more : ℕ) → even ≤ now + 10000000 → more ≤ 990000000 → now + 1000000000 < 2 ^ 64 →
    max even now + more ≤ min (min (max even now + more) (2 ^ 64 - 1)) (min (now + 1000000000) (2 ^ 64 - 1))
not_forgiven even now more rested few early = omega (arith, rested, few, early)

-- what is due comes after what was due, and after now
one_spell : (door : Taken) (spell : Spell) → IsRested door spell.now → due spell ≤ 990000000 → spell.now + 1000000000 < 2 ^ 64 →
    max door.even spell.now + due spell ≤ (after door spell).even
one_spell door spell rested few early = not_forgiven door.even spell.now (due spell) rested few early

all_spells : (door : Taken) (spells : List Spell) → Rests door spells → door.even + dues spells ≤ (after_all door spells).even
all_spells door [] rests = omega arith
all_spells door (spell ∷ spells) rests =
    let one = one_spell door spell rests.0 rests.1 rests.2 in
    let more = all_spells (after door spell) spells rests.3 in
    omega (arith, one, more)

pub keeps_to_its_part : (door : Taken) (first : Spell) (spells : List Spell) (now : ℕ) →
    Rests door (first ∷ spells) → IsRested (after_all door (first ∷ spells)) now → first.now + dues (first ∷ spells) ≤ now + 10000000
keeps_to_its_part door first spells now rests rested =
    let one = one_spell door first rests.0 rests.1 rests.2 in
    let more = all_spells (after door first) spells rests.3 in
    omega (arith, one, more, rested)

-- what is due later than in a second is forgiven, so that nobody rests for as long
forgiven : (even now : ℕ) → min even (min (now + 1000000000) (2 ^ 64 - 1)) - now - 10000000 ≤ 990000000
forgiven even now = omega arith

rests_then : (principal now spent others : ℕ) (carries : Bool) (processors : ℕ) (door : Taken) →
    (after_taking_by principal now spent others carries processors door).principal == principal ≡ true →
    rest_for (after_taking_by principal now spent others carries processors door) now ≤ 990000000
unfolding after_taking_by
rests_then principal now spent others carries processors door own = grind (arith, common_steps, own, forgiven)

chosen : (own : Bool) (one other most : ℕ) → (own ≡ true → one ≤ most) → other ≤ most → (if own then one else other) ≤ most
chosen true one other most first second = first refl
chosen false one other most first second = second

pub rests_for_less : (principal now spent others : ℕ) (carries : Bool) (processors : ℕ) (doors : List Taken) →
    rest_of principal now (map (after_taking_by principal now spent others carries processors) doors) ≤ 990000000
rests_for_less principal now spent others carries processors [] = omega arith
rests_for_less principal now spent others carries processors (door ∷ doors) =
    chosen ((after_taking_by principal now spent others carries processors door).principal == principal) _ _ 990000000
    (rests_then principal now spent others carries processors door)
    (rests_for_less principal now spent others carries processors doors)
