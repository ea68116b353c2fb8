-- What readers and writers hold.
use Rattle.std.specs.Prelude.{◌≡◌, ℕ, List, max, Option, IfSome}
use Rattle.bz_streams.specs.declared.device.Device.{Device}
use Rattle.bz_streams.specs.declared.memory.MemorySink.{MemorySink}
use Rattle.bz_streams.specs.declared.memory.MemorySource.{MemorySource}

-- the bytes that a reader has left, where they are known
abbrev pub IsInput : Option (List ℕ) → List ℕ → Type 0
IsInput known input = IfSome known (λ bytes. input ≡ bytes)

-- the reader or writer of std's
abbrev pub device_in : {T : Type 0} → Device T → T
device_in held = held.device

-- how often it has failed
abbrev pub device_faults : {T : Type 0} → Device T → ℕ
device_faults held = held.faults

-- the bytes that a reader in memory has left
abbrev pub left_in : MemorySource → List ℕ
left_in source = source.bytes.now

-- the bytes that were written in memory
abbrev pub written_in : MemorySink → List ℕ
written_in sink = sink.bytes.items

-- how a reader or a writer in memory goes on: the most bytes a call, the call that fails or 0, how many calls there were,
-- and how many of them failed
pub record Turns : Type 0 where
  pub step : ℕ
  pub fails_at : ℕ
  pub calls : ℕ
  pub faults : ℕ

-- before the first call
abbrev pub first_turn : ℕ → ℕ → Turns
first_turn step fails_at = record { step = max step 1; fails_at = fails_at; calls = 0; faults = 0 }

abbrev pub source_turns : MemorySource → Turns
source_turns source = record { step = source.step; fails_at = source.fails_at; calls = source.calls; faults = source.faults }

abbrev pub sink_turns : MemorySink → Turns
sink_turns sink = record { step = sink.step; fails_at = sink.fails_at; calls = sink.calls; faults = sink.faults }
