-- Keys that are equal are the same, and what a look-up and a store leave.
use Rattle.std.proofs.Common.{◌≡◌, ◌⊎◌, ℕ, true, List, Option, Some, Result, Ok, Err, OnOk, OnErr, Contains, refl, sym, subst, inl, inr, ⊎_elim, arith}
use Rattle.std.proofs.lemmas.Bool.{and_parts}
use Rattle.std.proofs.lemmas.Bool.Decides.{nat_tests}
use Rattle.std.specs.Map.{lookup}
use Rattle.std.specs.declared.alloc.AllocFailed.{AllocFailed}
use Rattle.lru.specs.LruCache.{LruCache, lru_cache, promoted, put_entries}
use Rattle.lru.proofs.CallerLemmas.{Contains-lookup, Contains-promoted, Contains-put_entries}
use Rattle.policy_core.specs.Act.{act_number}
use Rattle.decision_cache.proofs.Acts.{act_identical}
use Rattle.policy_core.specs.declared.act.Act.{Act}
use Rattle.policy_core.specs.declared.verdict.Verdict.{Verdict}
use Rattle.decision_cache.specs.declared.key.Key.{Key}
use Rattle.decision_cache.specs.contracts.key.KeyPartialEq.TheImpl.{eq-value}

key : ℕ → ℕ → ℕ → ℕ → Act → Key
key epoch moment subject principal act = record { epoch = epoch; moment = moment; subject = subject; principal = principal; act = act }

pub key_identical : (a b : Key) → eq-value.it a b ≡ true → a ≡ b
unfolding key
key_identical a b h =
    let e : a.epoch ≡ b.epoch = grind (arith, nat_tests, and_parts) in
    let m : a.moment ≡ b.moment = grind (arith, nat_tests, and_parts) in
    let s : a.subject ≡ b.subject = grind (arith, nat_tests, and_parts) in
    let p : a.principal ≡ b.principal = grind (arith, nat_tests, and_parts) in
    let n : act_number a.act ≡ act_number b.act = grind (arith, nat_tests, and_parts) in
    let t : a.act ≡ b.act = act_identical a.act b.act n in
    let whole : key a.epoch a.moment a.subject a.principal a.act ≡ b = rw (e, m, s, p, t) refl in
    whole

-- a verdict that is found stands under this very key
pub found_is : (entries : List (Key × Verdict)) (k : Key) (v : Verdict) → Some v ≡ lookup (eq-value.it k) entries → Contains entries (k, v)
found_is entries k v h =
    let on = Contains-lookup (eq-value.it k) entries v (sym h) in
    subst (λ (j : Key). Contains entries (j, v)) (sym (key_identical k on.0 on.2)) on.1

-- a look-up leaves no entry that was not there
pub got_adds : (cache after : LruCache Key Verdict) (k : Key) → after ≡ lru_cache (promoted (eq-value.it k) cache.entries) cache.cap
    → (entry : Key × Verdict) → Contains after.entries entry → Contains cache.entries entry
got_adds cache after k is entry there =
    Contains-promoted (eq-value.it k) cache.entries entry (subst (λ (c : LruCache Key Verdict). Contains c.entries entry) is there)

same_entry : (entry : Key × Verdict) (k : Key) (v : Verdict) → entry.0 ≡ k → entry.1 ≡ v → entry ≡ (k, v)
same_entry entry k v h i = let whole : (entry.0, entry.1) ≡ (k, v) = rw (h, i) refl in whole

-- a store leaves no other entry than those that were there and the stored one
put_adds : (cache after : LruCache Key Verdict) (k : Key) (v : Verdict) → after ≡ lru_cache (put_entries eq-value.it cache k v) cache.cap
    → (entry : Key × Verdict) → Contains after.entries entry → Contains cache.entries entry ⊎ (entry ≡ (k, v))
put_adds cache after k v is entry there =
    ⊎_elim
    (λ was. inl was)
    (λ put. inr (same_entry entry k v (⊎_elim (λ e. e) (λ e. sym (key_identical k entry.0 e.2)) put.1) put.0))
    (Contains-put_entries eq-value.it cache k v entry (subst (λ (c : LruCache Key Verdict). Contains c.entries entry) is there))

-- whether the store found memory or not
pub stored_adds : (r : Result (Option Verdict) (AllocFailed (Key × Verdict))) (cache after : LruCache Key Verdict) (k : Key) (v : Verdict)
    → OnOk r (after ≡ lru_cache (put_entries eq-value.it cache k v) cache.cap) → OnErr r (after ≡ cache)
    → (entry : Key × Verdict) → Contains after.entries entry → Contains cache.entries entry ⊎ (entry ≡ (k, v))
stored_adds (Ok old) cache after k v ok err entry there = put_adds cache after k v ok entry there
stored_adds (Err failed) cache after k v ok err entry there = inl (subst (λ (c : LruCache Key Verdict). Contains c.entries entry) err there)
