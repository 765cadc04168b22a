-- The settings that a script chooses are such as a driver may be opened with.
use Rattle.std.proofs.Common.{◌≡◌, ℕ, ◌<◌, ◌≤◌, List, Option, Some, None, nat_le, if◌then◌else◌, refl, arith}
use Rattle.std.specs.List.{list_any}
use Rattle.std.specs.Str.{bytes_eq}
use Rattle.std.proofs.lemmas.Bool.{cond_both, leb-true}
use Rattle.channel_uri.specs.Address.{address_of}
use Rattle.channel_uri.specs.Quantity.{mtu_from, term_length_from}
use Rattle.channel_uri.specs.Session.{session_id_of}
use Rattle.driver_core.specs.declared.state.settings.Settings.{Settings}
use Rattle.driver_core.specs.Settings.{default_settings}
use Rattle.driver_core.specs.Soundness.{AreSettings}
use Rattle.driver_core.proofs.SizeLemmas.{Holds, IsMtu, IsTermLength, mtu_sound, term_length_sound}
use Rattle.script_lines.specs.declared.settings.Duration.{Duration as DurationKey}
use Rattle.script_lines.specs.declared.settings.Duration.TheVariants.{ClientLiveness, ImageLiveness, Linger, ConnectionTimeout, DestinationTimeout, ResendLinger, NakDelay, NakRepeat, SetupInterval, HeartbeatInterval, StatusInterval}
use Rattle.script_lines.specs.declared.settings.Key.{Key}
use Rattle.script_lines.specs.declared.settings.Key.TheVariants.{Duration, TermLength, Mtu, ArenaPages, FirstSession, InitialTerm, ReceiverId, SendAddress}
use Rattle.script_lines.specs.Hex.{◌>>=◌}
use Rattle.script_lines.specs.Number.{number_of}
use Rattle.script_lines.specs.Settings.{Chosen, chosen, duration_in, images_of, key_of, mtu_in, pages_of, term_length_in, with_duration, with_value}

-- ---- what is read

holds_next : {A B : Type 0} (P : B → Type 0) (read : Option A) (next : A → Option B) → ((x : A) → Holds P (next x)) →
    Holds P (read >>= next)
holds_next P None next each = tt
holds_next P (Some x) next each = each x

holds_then : {A B : Type 0} (Q : A → Type 0) (P : B → Type 0) (read : Option A) (next : A → Option B) → Holds Q read →
    ((x : A) → Q x → Holds P (next x)) → Holds P (read >>= next)
holds_then Q P None next held each = tt
holds_then Q P (Some x) next held each = each x held

held : {A : Type 0} (P : A → Type 0) (read : Option A) (x : A) → read ≡ Some x → Holds P read → P x
held P None x is h = cc
held P (Some y) x is h = let same : y ≡ x = cc in rw (← same) h

-- from 1 to a limit
abbrev IsUpTo : ℕ → ℕ → Type 0
IsUpTo limit n = (0 < n) × (n ≤ limit)

abbrev ArePages : ℕ → Type 0
ArePages n = IsUpTo 65536 n

abbrev AreImages : ℕ → Type 0
AreImages n = IsUpTo 512 n

up_to : (limit n : ℕ) →
    Holds (IsUpTo limit) (if nat_le 1 n then if nat_le n limit then Some n else None else None)
up_to limit n =
    cond_both (nat_le 1 n) _ _ (Holds (IsUpTo limit))
    (λ low.
    cond_both (nat_le n limit) _ _ (Holds (IsUpTo limit))
    (λ high. (leb-true 1 n low, leb-true n limit high))
    (λ e. tt))
    (λ e. tt)

pages_sound : (value : List ℕ) → Holds ArePages (pages_of value)
pages_sound value = holds_next ArePages (number_of value) _ (up_to 65536)

images_sound : (value : List ℕ) → Holds AreImages (images_of value)
images_sound value = holds_next AreImages (number_of value) _ (up_to 512)

-- ---- the settings

pub sound_default : AreSettings default_settings
sound_default = record {
  sizes = record {
    term_low = omega arith;
    term_high = omega arith;
    term_whole = refl;
    mtu_low = omega arith;
    mtu_high = omega arith;
    mtu_aligned = refl;
  };
  some_pages = omega arith;
  few_pages = omega arith;
  some_images = omega arith;
  few_images = omega arith;
}

-- only the sizes, the pages and the images count
sound_by : (settings : Settings) → IsTermLength settings.term_length → IsMtu settings.mtu →
    ArePages settings.arena_pages → AreImages settings.images_per_source → AreSettings settings
sound_by settings term mtu pages images = record {
  sizes = record {
    term_low = term.0;
    term_high = term.1;
    term_whole = term.2;
    mtu_low = mtu.0;
    mtu_high = mtu.1;
    mtu_aligned = mtu.2;
  };
  some_pages = pages.0;
  few_pages = pages.1;
  some_images = images.0;
  few_images = images.1;
}

term_of : (settings : Settings) → AreSettings settings → IsTermLength settings.term_length
term_of settings sound = (sound.sizes.term_low, sound.sizes.term_high, sound.sizes.term_whole)

mtu_of : (settings : Settings) → AreSettings settings → IsMtu settings.mtu
mtu_of settings sound = (sound.sizes.mtu_low, sound.sizes.mtu_high, sound.sizes.mtu_aligned)

pages_in : (settings : Settings) → AreSettings settings → ArePages settings.arena_pages
pages_in settings sound = (sound.some_pages, sound.few_pages)

images_in : (settings : Settings) → AreSettings settings → AreImages settings.images_per_source
images_in settings sound = (sound.some_images, sound.few_images)

-- another setting may be what it likes
sound_like : (settings new : Settings) → AreSettings settings → new.term_length ≡ settings.term_length →
    new.mtu ≡ settings.mtu → new.arena_pages ≡ settings.arena_pages →
    new.images_per_source ≡ settings.images_per_source → AreSettings new
sound_like settings new sound term mtu pages images =
    sound_by new (rw term (term_of settings sound)) (rw mtu (mtu_of settings sound))
    (rw pages (pages_in settings sound)) (rw images (images_in settings sound))

duration_sound : (settings : Settings) (key : DurationKey) (duration : ℕ) → AreSettings settings →
    AreSettings (with_duration settings key duration)
duration_sound settings ClientLiveness duration sound = sound_like settings _ sound refl refl refl refl
duration_sound settings ImageLiveness duration sound = sound_like settings _ sound refl refl refl refl
duration_sound settings Linger duration sound = sound_like settings _ sound refl refl refl refl
duration_sound settings ConnectionTimeout duration sound = sound_like settings _ sound refl refl refl refl
duration_sound settings DestinationTimeout duration sound = sound_like settings _ sound refl refl refl refl
duration_sound settings ResendLinger duration sound = sound_like settings _ sound refl refl refl refl
duration_sound settings NakDelay duration sound = sound_like settings _ sound refl refl refl refl
duration_sound settings NakRepeat duration sound = sound_like settings _ sound refl refl refl refl
duration_sound settings SetupInterval duration sound = sound_like settings _ sound refl refl refl refl
duration_sound settings HeartbeatInterval duration sound = sound_like settings _ sound refl refl refl refl
duration_sound settings StatusInterval duration sound = sound_like settings _ sound refl refl refl refl

value_sound : (settings : Settings) (key : Key) (value : List ℕ) → AreSettings settings →
    Holds AreSettings (with_value settings key value)
value_sound settings (Duration key) value sound =
    holds_next AreSettings (duration_in value) _ (λ duration. duration_sound settings key duration sound)
value_sound settings TermLength value sound =
    holds_then IsTermLength AreSettings (term_length_in value) _
    (holds_next IsTermLength (number_of value) term_length_from term_length_sound)
    (λ size is. sound_by _ is (mtu_of settings sound) (pages_in settings sound) (images_in settings sound))
value_sound settings Mtu value sound =
    holds_then IsMtu AreSettings (mtu_in value) _
    (holds_next IsMtu (number_of value) mtu_from mtu_sound)
    (λ size is. sound_by _ (term_of settings sound) is (pages_in settings sound) (images_in settings sound))
value_sound settings ArenaPages value sound =
    holds_then ArePages AreSettings (pages_of value) _ (pages_sound value)
    (λ pages is. sound_by _ (term_of settings sound) (mtu_of settings sound) is (images_in settings sound))
value_sound settings FirstSession value sound =
    holds_next AreSettings (session_id_of value) _
    (λ id. sound_like settings _ sound refl refl refl refl)
value_sound settings InitialTerm value sound =
    holds_next AreSettings (session_id_of value) _
    (λ id. sound_like settings _ sound refl refl refl refl)
value_sound settings ReceiverId value sound =
    holds_next AreSettings (number_of value) _
    (λ id. sound_like settings _ sound refl refl refl refl)
value_sound settings SendAddress value sound =
    holds_next AreSettings (address_of value) _
    (λ address. sound_like settings _ sound refl refl refl refl)

-- so many images of one source address
pub images_chosen : (settings : Settings) (value : List ℕ) (images : ℕ) → AreSettings settings → images_of value ≡ Some images →
    AreSettings (record settings { images_per_source = images })
images_chosen settings value images sound is =
    let few : AreImages images = held AreImages (images_of value) images is (images_sound value) in
    sound_by _ (term_of settings sound) (mtu_of settings sound) (pages_in settings sound) few

-- one choice more
chosen_holds : (choices : Chosen) (name value : List ℕ) → AreSettings choices.settings →
    Holds AreSettings (chosen choices name value)
chosen_holds choices name value sound =
    cond_both (list_any (λ given. bytes_eq given name) choices.given) _ _ (Holds AreSettings)
    (λ given. tt)
    (λ new. holds_next AreSettings (key_of name) _ (λ key. value_sound choices.settings key value sound))

pub chosen_sound : (choices : Chosen) (name value : List ℕ) (settings : Settings) → AreSettings choices.settings →
    chosen choices name value ≡ Some settings → AreSettings settings
chosen_sound choices name value settings sound is =
    held AreSettings (chosen choices name value) settings is (chosen_holds choices name value sound)
