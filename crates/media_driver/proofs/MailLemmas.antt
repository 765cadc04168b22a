-- What a client takes out of its ring, mail by mail.
use Rattle.std.proofs.Common.{◌≡◌, ◌≢◌, ◌+◌, ℕ, Some, None, List, [], ◌∷◌, ◌++◌, append_assoc, arith, ap, subst, sym, ◌∙◌, refl, length, inl, inr}
use Rattle.std.proofs.lemmas.List.{append-nil, length-append}
use Rattle.std.proofs.lemmas.List.Elements.{All-nil, All-push}
use Rattle.media_agents.specs.Mails.{Posted}
use Rattle.media_driver.specs.Clients.{Attached, FindsNone, FindsOwn, Learns, PassesOver, Pops}
use Rattle.published_registry.specs.Histories.{History, IsContinuedBy}

abbrev IsOther : ℕ → Posted → Type 0
IsOther number mail = mail.client ≢ number

-- so many mails were passed over so far
pub record Passed (old new : Attached) (count : ℕ) : Type 0 where
  pub passed : List Posted
  pub passes : PassesOver passed old new
  pub number : length passed ≡ count

pub none_passed : (old : Attached) → Passed old old 0
none_passed old = record {
  passed = [];
  passes = record { others = All-nil _; new_is = simp append-nil };
  number = refl;
}

-- one more is passed over
pub one_passed : (old mid new : Attached) (mail : Posted) (n : ℕ) → Passed old mid n → Pops mid new (Some mail) → mail.client ≢ old.number → Passed old new (n + 1)
one_passed old mid new mail n before pops other = record {
  passed = before.passed ++ mail ∷ [];
  passes = record {
    others = All-push (IsOther old.number) before.passed mail before.passes.others other;
    new_is =
        let taken : mid.taken ≡ old.taken ++ before.passed = ap (λ (a : Attached). a.taken) before.passes.new_is in
        let more : mid.taken ++ mail ∷ [] ≡ old.taken ++ (before.passed ++ mail ∷ []) =
        ap (λ (w : List Posted). w ++ mail ∷ []) taken ∙ append_assoc old.taken before.passed (mail ∷ []) in
        cc;
  };
  number = omega (arith, length-append before.passed (mail ∷ []));
}

-- no mail is left
pub none_left : (old mid new : Attached) (n : ℕ) → Passed old mid n → Pops mid new None → FindsNone old new
none_left old mid new n before pops = record {
  passed = before.passed;
  passes = record {
    others = before.passes.others;
    new_is =
        pops ∙ (ap (λ (a : Attached). record a { waiting = [] }) before.passes.new_is
        ∙ ap (λ (w : List Posted). record old { taken = old.taken ++ before.passed; waiting = w }) (sym (ap (λ (a : Attached). a.waiting) pops)));
  };
  ends = inl (ap (λ (a : Attached). a.waiting) pops);
}

-- more than a ring holds were passed over
pub all_passed : (old mid : Attached) → Passed old mid 257 → FindsNone old mid
all_passed old mid before = record { passed = before.passed; passes = before.passes; ends = inr before.number }

-- one of the client's own comes, and the client learns its receipt
pub own_found : (old mid next new : Attached) (mail : Posted) (n : ℕ) → Passed old mid n → Pops mid next (Some mail) → mail.client ≡ old.number → Learns mail.receipt next new → FindsOwn mail old new
own_found old mid next new mail n before pops own learns =
    let same : next.known ≡ old.known = ap (λ (a : Attached). a.known) pops ∙ ap (λ (a : Attached). a.known) before.passes.new_is in
    let taken : next.taken ≡ (old.taken ++ before.passed) ++ mail ∷ [] =
    ap (λ (a : Attached). a.taken) pops ∙ ap (λ (a : Attached). a.taken ++ mail ∷ []) before.passes.new_is in
    let waiting : next.waiting ≡ new.waiting = sym (ap (λ (a : Attached). a.waiting) learns.looks.new_is) in
    record {
      passed = before.passed;
      others = before.passes.others;
      own = own;
      known = subst (λ (known : History). IsContinuedBy known new.known) same learns.looks.known;
      learned = learns.learned;
      new_is = cc;
    }
