-- Whether a client takes its replies. Own rules; moments are in nanoseconds.
use Rattle.std.specs.Prelude.{◌-◌, ◌||◌, nat_lt, unwrap_or, ℕ, Bool, true, false, Option, Some, None, if◌then◌else◌}
use Rattle.reading_progress.specs.declared.posts.Post.{Post}

abbrev pub new_post : Post
new_post = record { first = None; lost = false; since = None }

-- the first reply says how many were lost before it; a later one that says more says that one was lost since
abbrev pub after_first : ℕ → Post → Option ℕ → Post
after_first lost post None = record post { first = Some lost }
after_first lost post (Some first) = record post { lost = post.lost || nat_lt first lost }

abbrev pub after_reply : ℕ → Post → Post
after_reply lost post = after_first lost post post.first

-- from then on there may be something to read of which nothing is known: replies were lost, or there is no room to keep more
abbrev pub after_look : ℕ → Bool → Post → Post
after_look now is_full post = record post { since = if is_full || post.lost then Some (unwrap_or post.since now) else None }

abbrev pub is_longer : ℕ → ℕ → Option ℕ → Bool
is_longer now longest None = false
is_longer now longest (Some since) = nat_lt longest (now - since)

abbrev pub is_left : ℕ → ℕ → Post → Bool
is_left now longest post = is_longer now longest post.since
