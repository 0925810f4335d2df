-- The number, the layer and the place of each refusal, and its four bytes.
use Rattle.std.specs.Prelude.{ℕ, List, [], ◌∷◌, Some, None, Option}
use Rattle.calls.specs.declared.reason.Reason.{Reason}
use Rattle.calls.specs.declared.reason.Reason.TheVariants.{
  NotAFrame,
  Making,
  NoSuchBench,
  NoSuchPage,
  NoSuchObject,
  Idle,
  NotIdle,
  Aborted,
  NoCopy,
  Hole,
  EightWritten,
  NotModified,
  Used,
  EightCopies,
  InvalidUse,
  NumbersSpent,
  CacheFull,
  LogFull,
  HandOut,
  NoEntry,
  NoHand,
  BadPage,
}
use Rattle.calls.specs.declared.refusal.Layer.{Layer}
use Rattle.calls.specs.declared.refusal.Layer.TheVariants.{Door, Bench, Server, Log, Disk}
use Rattle.calls.specs.declared.refusal.Place.{Place}
use Rattle.calls.specs.declared.refusal.Refusal.{Refusal}

abbrev pub nowhere : Place
nowhere = record { page = None; object = None }

-- object o of page p
abbrev pub at : ℕ → ℕ → Place
at p o = record { page = Some p; object = Some o }

-- the number of each reason, and the layer that refuses for it
abbrev pub number_and_layer : Reason → ℕ × Layer
number_and_layer NotAFrame = (1, Door)
number_and_layer Making = (2, Door)
number_and_layer NoSuchBench = (3, Door)
number_and_layer NoSuchPage = (4, Door)
number_and_layer NoSuchObject = (5, Door)
number_and_layer Idle = (6, Bench)
number_and_layer NotIdle = (7, Bench)
number_and_layer Aborted = (8, Bench)
number_and_layer NoCopy = (9, Bench)
number_and_layer Hole = (10, Bench)
number_and_layer EightWritten = (11, Bench)
number_and_layer NotModified = (12, Bench)
number_and_layer Used = (13, Bench)
number_and_layer EightCopies = (14, Bench)
number_and_layer (InvalidUse p o) = (15, Server)
number_and_layer NumbersSpent = (16, Server)
number_and_layer CacheFull = (17, Server)
number_and_layer LogFull = (18, Log)
number_and_layer HandOut = (19, Server)
number_and_layer NoEntry = (20, Server)
number_and_layer NoHand = (21, Server)
number_and_layer BadPage = (22, Disk)

abbrev pub reason_number : Reason → ℕ
reason_number r = (number_and_layer r).0

abbrev pub reason_layer : Reason → Layer
reason_layer r = (number_and_layer r).1

-- where a refusal points: at the place that the call names, unless its reason has a place of its own
abbrev pub place_of_refusal : Reason → Place → Place
place_of_refusal (InvalidUse p o) asked = at p o
place_of_refusal other asked = asked

abbrev pub refusal : Reason → Place → Refusal
refusal r asked = record { reason = r; place = place_of_refusal r asked }

abbrev pub layer_number : Layer → ℕ
layer_number Door = 0
layer_number Bench = 1
layer_number Server = 2
layer_number Log = 3
layer_number Disk = 4

-- 255 tells that there is none
abbrev pub byte_or_255 : Option ℕ → ℕ
byte_or_255 None = 255
byte_or_255 (Some n) = n

abbrev pub refusal_bytes : Refusal → List ℕ
refusal_bytes r = reason_number r.reason ∷ layer_number (reason_layer r.reason) ∷ byte_or_255 r.place.page ∷ byte_or_255 r.place.object ∷ []
