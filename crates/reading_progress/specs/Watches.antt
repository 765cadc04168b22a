-- What is remembered of how a client goes on with what it has to read. Own rules; moments are in nanoseconds.
use Rattle.std.specs.Prelude.{◌≡◌, ◌+◌, ◌-◌, ◌/◌, ◌^◌, ◌&&◌, ◌||◌, min, nat_le, ℕ, Bool, true, false, List, [], filter, is_some, map, Option, Some, None, Result}
use Rattle.reading_progress.specs.Pairs.{IsAdded, is_any_stuck, is_other, seen_at}
use Rattle.reading_progress.specs.Posts.{after_look, after_reply, is_left, new_post}
use Rattle.reading_progress.specs.declared.pairs.Pair.{Pair}
use Rattle.reading_progress.specs.declared.posts.Post.{Post}

-- for how long it may have something to read and not go on, if there is a bound; whether it ever asked to subscribe; what it reads;
-- whether it takes its replies; and when it is looked how far it has come
pub record Watching : Type 0 where
  pub longest : Option ℕ
  pub subscribed : Bool
  pub pairs : List Pair
  pub post : Post
  pub due : ℕ

abbrev pub new_watch : Option ℕ → Watching
new_watch longest = record { longest = longest; subscribed = false; pairs = []; post = new_post; due = 0 }

abbrev pub after_subscribing : Watching → Watching
after_subscribing watch = record watch { subscribed = true }

abbrev pub after_reply_to : ℕ → Watching → Watching
after_reply_to lost watch = record watch { post = after_reply lost watch.post }

-- the pair is one of those that it reads, and nothing else changes; or nothing at all
pub record IsTold {E : Type 0} (subscription source : ℕ) (old new : Watching) (told : Result Unit E) : Type 0 where
  pub added : IsAdded subscription source old.pairs new.pairs told
  pub same : new ≡ record old { pairs = new.pairs }

-- who subscribed is looked at where there is a bound
abbrev pub is_due : ℕ → Watching → Bool
is_due now watch = watch.subscribed && (is_some watch.longest && nat_le watch.due now)

abbrev pub after_seen : ℕ → ℕ → ℕ → ℕ → ℕ → Watching → Watching
after_seen subscription source now position received watch = record watch { pairs = map (seen_at subscription source now position received) watch.pairs }

abbrev pub without_pair : ℕ → ℕ → Watching → Watching
without_pair subscription source watch = record watch { pairs = filter (is_other subscription source) watch.pairs }

-- it is looked again after a quarter of the time
abbrev pub settled : ℕ → Bool → Option ℕ → Watching → Watching
settled now is_full None watch = watch
settled now is_full (Some longest) watch = record watch { post = after_look now is_full watch.post; due = min (now + longest / 4) (2 ^ 64 - 1) }

abbrev pub after_all : ℕ → Bool → Watching → Watching
after_all now is_full watch = settled now is_full watch.longest watch

-- For longer than the time it did not take its replies, or did not go on with a source of which it had something to read.
abbrev pub is_behind : ℕ → Option ℕ → Watching → Bool
is_behind now None watch = false
is_behind now (Some longest) watch = is_left now longest watch.post || is_any_stuck now longest watch.pairs

abbrev pub is_left_behind : ℕ → Watching → Bool
is_left_behind now watch = is_behind now watch.longest watch
