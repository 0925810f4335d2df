-- The bench, page, object and cut point that a call names.
use Rattle.std.specs.Prelude.{ℕ, Some, None, Option}
use Rattle.calls.specs.declared.call.Call.{Call}
use Rattle.calls.specs.declared.call.Call.TheVariants.{
  Making,
  Begin,
  Read,
  Write,
  Commit,
  Cancel,
  Fetch,
  Evict,
  Drop,
  Deliver,
  TakeUp,
  PutDown,
  LetGo,
  Restart,
  Cut,
}
use Rattle.calls.specs.declared.page_number.PageNumber.{PageNumber}
use Rattle.calls.specs.declared.refusal.Place.{Place}

pub record Named : Type 0 where
  pub bench : Option ℕ
  pub page : Option ℕ
  pub object : Option ℕ
  pub cut_point : Option ℕ

abbrev pub naming : Option ℕ → Option ℕ → Option ℕ → Option ℕ → Named
naming b p o k = record { bench = b; page = p; object = o; cut_point = k }

-- the sizes and the bad page of a making are not among these
abbrev pub named : Call → Named
named (Making n b k bad) = naming None None None None
named (Begin b) = naming (Some b) None None None
named (Read b p o) = naming (Some b) (Some p) (Some o) None
named (Write b p o v) = naming (Some b) (Some p) (Some o) None
named (Commit b) = naming (Some b) None None None
named (Cancel b) = naming (Some b) None None None
named (Fetch b p) = naming (Some b) (Some p) None None
named (Evict b p) = naming (Some b) (Some p) None None
named (Drop b p o) = naming (Some b) (Some p) (Some o) None
named (Deliver b p) = naming (Some b) (Some p) None None
named (TakeUp p) = naming None (Some p) None None
named (PutDown k) = naming None None None (Some k)
named LetGo = naming None None None None
named (Restart b) = naming (Some b) None None None
named Cut = naming None None None None

-- the page and the object that a refusal of the call tells, unless its reason has a place of its own
abbrev pub place_of : Call → Place
place_of c = record { page = (named c).page; object = (named c).object }

-- what holds of a making, by its pages, benches, entries and bad page, and what of any other call
abbrev pub by_making : {A : Type 0} → (ℕ → ℕ → ℕ → Option PageNumber → A) → A → Call → A
by_making making other (Making n b k bad) = making n b k bad
by_making making other call = other
