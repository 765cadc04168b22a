-- What a driver is set to where nothing is said: durations in nanoseconds, sizes in bytes.
use Rattle.std.specs.Prelude.{pos, [], ◌∷◌}
use Rattle.driver_core.specs.declared.state.settings.Settings.{Settings}

abbrev pub default_settings : Settings
default_settings = record {
  client_liveness = 10000000000;
  image_liveness = 10000000000;
  linger = 5000000000;
  connection_timeout = 5000000000;
  destination_timeout = 5000000000;
  resend_linger = 60000000;
  nak_delay = 1000000;
  nak_repeat = 60000000;
  setup_interval = 100000000;
  heartbeat_interval = 100000000;
  status_interval = 200000000;
  term_length = 65536;
  mtu = 1408;
  arena_pages = 4096;
  images_per_source = 512;
  first_session = pos 1;
  initial_term = pos 0;
  receiver_id = 1;
  send_address = record { octets = 127 ∷ 0 ∷ 0 ∷ 1 ∷ []; port = 40000 };
}
