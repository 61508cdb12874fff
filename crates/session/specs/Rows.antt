-- Worked examples of an opening, which the checker computes: a definition that says something else fails here.
use Rattle.std.specs.Prelude.{◌≡◌, ℕ, List, [], ◌∷◌, codes, length, true, false, take, drop}
use Rattle.model.specs.Tables.{pairs_bytes}
use Rattle.model.specs.Grammar.{method_bytes, ids}
use Rattle.model.specs.Step.{connection_close}
use Rattle.model.specs.Phases.{no_session}
use Rattle.model.specs.Spelling.{spelling}
use Rattle.model.specs.Opening.{capabilities, server_properties, start, new_session, opening_move, first_move}
use Rattle.model.specs.declared.events.Phase.TheVariants as phase
use Rattle.model.specs.declared.events.Send.TheVariants.{Greeting}
use Rattle.model.specs.declared.methods.Method.{Method}
use Rattle.model.specs.declared.methods.Method.TheVariants.{ConnectionStartOk, ConnectionTuneOk, ConnectionOpen}

-- `connection.start`: the lengths of its tables and its payload; the payload begins with class 10, method 10, version 0-9 and the table's length
pub record StartPayload : Type 0 where
  pub inner : length (pairs_bytes capabilities) ≡ 63
  pub outer : length (pairs_bytes server_properties) ≡ 100
  pub payload : length (method_bytes start) ≡ 128
  pub front : take 10 (method_bytes start) ≡ 0 ∷ 10 ∷ 0 ∷ 10 ∷ 0 ∷ 9 ∷ 0 ∷ 0 ∷ 0 ∷ 100 ∷ []
  -- the mechanisms `PLAIN` and the locales `en_US`, each after its length
  pub back : drop 110 (method_bytes start) ≡ 0 ∷ 0 ∷ 0 ∷ 5 ∷ 80 ∷ 76 ∷ 65 ∷ 73 ∷ 78 ∷ 0 ∷ 0 ∷ 0 ∷ 5 ∷ 101 ∷ 110 ∷ 95 ∷ 85 ∷ 83 ∷ []

-- a tune-ok with these limits and this heartbeat
abbrev pub tune_ok : ℕ → ℕ → ℕ → Method
tune_ok channel_max frame_max heartbeat = ConnectionTuneOk (record { channel_max = channel_max; frame_max = frame_max; heartbeat = heartbeat })

-- a `connection.open` of the vhost `host`
abbrev pub open_of : List ℕ → Method
open_of host = ConnectionOpen (record { virtual_host = host; reserved_text = []; reserved_bit = false })

-- the frames of an opening, byte by byte
pub record OpeningFrames : Type 0 where
  -- tune, after a start-ok that is a login
  pub tune : spelling 4096 (opening_move 1 true new_session phase.Start 0
      (ConnectionStartOk (record { client_properties = []; mechanism = []; response = []; locale = [] }))).sends
      ≡ 1 ∷ 0 ∷ 0 ∷ 0 ∷ 0 ∷ 0 ∷ 12 ∷ 0 ∷ 10 ∷ 0 ∷ 30 ∷ 0 ∷ 255 ∷ 0 ∷ 2 ∷ 0 ∷ 0 ∷ 0 ∷ 0 ∷ 206 ∷ []
  -- a tune-ok gets no reply; a 0 means the server's limit
  pub tuned : opening_move 1 false new_session phase.Tune 0 (tune_ok 0 0 0)
      ≡ record { sends = []; next = record { phase = phase.Open; channel_max = 255; frame_max = 131072 } }
  pub lower : opening_move 1 false new_session phase.Tune 0 (tune_ok 10 4096 0)
      ≡ record { sends = []; next = record { phase = phase.Open; channel_max = 10; frame_max = 4096 } }
  -- open-ok
  pub opened : spelling 131072 (opening_move 1 false new_session phase.Open 0 (open_of (codes "/"))).sends
      ≡ 1 ∷ 0 ∷ 0 ∷ 0 ∷ 0 ∷ 0 ∷ 5 ∷ 0 ∷ 10 ∷ 0 ∷ 41 ∷ 0 ∷ 206 ∷ []

-- the refusals of an opening
pub record OpeningRefusals : Type 0 where
  -- a frame length of 4,095, one over the server's, a channel-max over the server's, a heartbeat: reply code 530 for class 10, method 31
  pub small_frame : (opening_move 1 false new_session phase.Tune 0 (tune_ok 0 4095 0)).sends ≡ connection_close 1 530 (ids 10 31) ∷ []
  pub large_frame : (opening_move 1 false new_session phase.Tune 0 (tune_ok 0 131073 0)).sends ≡ connection_close 1 530 (ids 10 31) ∷ []
  pub large_channel : (opening_move 1 false new_session phase.Tune 0 (tune_ok 256 0 0)).sends ≡ connection_close 1 530 (ids 10 31) ∷ []
  pub heartbeat : (opening_move 1 false new_session phase.Tune 0 (tune_ok 0 0 60)).sends ≡ connection_close 1 530 (ids 10 31) ∷ []
  -- another vhost; open too early; open on another channel
  pub vhost : (opening_move 1 false new_session phase.Open 0 (open_of (codes "/other"))).sends ≡ connection_close 1 530 (ids 10 40) ∷ []
  pub early : (opening_move 1 false new_session phase.Tune 0 (open_of (codes "/"))).sends ≡ connection_close 1 503 (ids 10 40) ∷ []
  pub channel : (opening_move 1 false new_session phase.Open 1 (open_of (codes "/"))).sends ≡ connection_close 1 503 (ids 10 40) ∷ []
  -- eight bytes of another protocol: the protocol header is sent, and the session is over
  pub other_header : first_move 1 new_session phase.Header (codes "HTTP/1.1") ≡ record { sends = Greeting 1 ∷ []; next = no_session }
