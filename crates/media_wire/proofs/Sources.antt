-- Where the letters that are read come from.
use Rattle.std.proofs.Common.{◌≡◌, ◌-◌, ℕ, suc, Bool, true, false, List, [], ◌∷◌, ◌++◌, Option, Some, None, length, take, drop, refl, sym, subst, arith}
use Rattle.std.specs.List.{All, Contains, find, position_or_len}
use Rattle.std.proofs.lemmas.List.Elements.{All-append, All-cons, All-contains, All-drop, All-head, All-nil, All-push, All-tail, All-take, All-weaker, Contains-append_right}
use Rattle.std.proofs.lemmas.Option.{same_Some}
use Rattle.media_wire.specs.Arrivals.{WereSent, all_read, all_sent}
use Rattle.media_wire.specs.Events.{Event, sent, read, nothing, failed}
use Rattle.media_wire.specs.Letters.{is_for}
use Rattle.media_wire.specs.Networks.{Flight, LeadAll, carried, launched, start}
use Rattle.media_wire.specs.declared.letter.Letter.{Letter}
use Rattle.media_wire.specs.declared.network.Fate.{Fate}
use Rattle.media_wire.specs.declared.network.Fate.TheVariants.{Arrives, IsLost, IsRepeated, Overtakes}

own : (letters : List Letter) → All (Contains letters) letters
own [] = All-nil (Contains [])
own (it ∷ letters) =
    All-cons (Contains (it ∷ letters)) it letters (0, omega arith, refl)
    (All-weaker (Contains letters) (Contains (it ∷ letters)) (λ other in'. Contains-append_right (it ∷ []) letters other in') letters (own letters))

module _ (P : Letter → Type 0) where
  carried_all : (fate : Fate) (it : Letter) (letters : List Letter) → P it → All P letters → All P (carried fate it letters)
  carried_all Arrives it letters here all = All-push P letters it all here
  carried_all IsLost it letters here all = all
  carried_all IsRepeated it letters here all =
      All-append P letters (it ∷ it ∷ []) all (All-cons P it (it ∷ []) here (All-cons P it [] here (All-nil P)))
  carried_all Overtakes it letters here all =
      All-append P (take (length letters - 1) letters) (it ∷ drop (length letters - 1) letters) (All-take P (length letters - 1) letters all)
      (All-cons P it (drop (length letters - 1) letters) here (All-drop P (length letters - 1) letters all))

  launched_all : (fate : Option Fate) (it : Letter) (flight : Flight) → P it → All P flight.letters → All P (launched fate it flight).letters
  launched_all None it flight here all = carried_all Arrives it flight.letters here all
  launched_all (Some fate) it flight here all = carried_all fate it flight.letters here all

  found_all : (test : Letter → Bool) (letters : List Letter) (it : Letter) → find test letters ≡ Some it → All P letters → P it
  found_all test [] it found all = cc
  found_all test (first ∷ letters) it found all =
      by (test first) refl (λ later. found_all test letters it later (All-tail P first letters all)) where
        by : (b : Bool) → test first ≡ b → (find test letters ≡ Some it → P it) → P it
        by true is rest = subst P (same_Some first it (rw is at found)) (All-head P first letters all)
        by false is rest = rest (rw is at found)

  left_all : (place : ℕ) (letters : List Letter) → All P letters → All P (take place letters ++ drop (suc place) letters)
  left_all place letters all =
      All-append P (take place letters) (drop (suc place) letters) (All-take P place letters all) (All-drop P (suc place) letters all)

  all_were_sent : (fates : List Fate) (flight next : Flight) (events : List Event) → LeadAll fates flight events next →
      All P flight.letters → All P (all_sent events) → All P (all_read events ++ next.letters)
  all_were_sent fates flight next [] is all sent' = subst (λ (now : Flight). All P now.letters) (sym is) all
  all_were_sent fates flight next (sent it ∷ events) (mid, is, rest) all sent' =
      all_were_sent fates mid next events rest
      (subst (λ (now : Flight). All P now.letters) (sym is) (launched_all _ it flight (All-head P it (all_sent events) sent') all))
      (All-tail P it (all_sent events) sent')
  all_were_sent fates flight next (read it ∷ events) (mid, is, rest) all sent' =
      All-cons P it (all_read events ++ next.letters) (found_all (is_for it.to) flight.letters it is.0 all)
      (all_were_sent fates mid next events rest
      (subst (λ (now : Flight). All P now.letters) (sym is.1)
      (left_all (position_or_len (is_for it.to) flight.letters) flight.letters all))
      sent')
  all_were_sent fates flight next (nothing at ∷ events) (mid, is, rest) all sent' =
      all_were_sent fates mid next events rest (subst (λ (now : Flight). All P now.letters) (sym is.1) all) sent'
  all_were_sent fates flight next (failed ∷ events) (mid, is, rest) all sent' =
      all_were_sent fates mid next events rest (subst (λ (now : Flight). All P now.letters) (sym is) all) sent'

pub were_sent : WereSent
were_sent net events it goes in' =
    let P : Letter → Type 0 = Contains (all_sent events) in
    All-contains P (all_read events ++ net.flight.letters) it
    (all_were_sent P net.fates start net.flight events goes.flight (All-nil P) (own (all_sent events))) in'
