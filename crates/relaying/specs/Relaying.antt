-- What the parts of relaying ask and answer.
use Rattle.std.specs.Prelude.{ℕ, ◌<◌, ◌≡◌, Bool, not, cond, ◌||◌, List, length, get_or, leb}
use Rattle.paper.specs.Octets.{field}
use Rattle.paper.specs.Answer.{Answer}
use Rattle.paper.specs.First.{all, some, listed}
use Rattle.paper.specs.Telegrams.{error, mark_width}
use Rattle.paper.specs.SignalList.{SignalList}
use Rattle.paper.specs.Store.{Slot}
use Rattle.paper.specs.Composing.{composing_by}
use Rattle.paper.specs.Relaying.{relay_type, under, relay_values, relay_marks}
use Rattle.relaying.specs.declared.State.{State}
use Rattle.relaying.specs.declared.State.TheVariants.{Nothing, Live, NotLive}

-- the state of a check with one signal more under it, read live or not
abbrev pub state_with : State → Bool → State
state_with Nothing live = cond live Live NotLive
state_with Live live = cond live Live NotLive
state_with NotLive live = NotLive

-- nothing is under any check
abbrev pub Fresh : List State → Type 0
Fresh xs = (j : ℕ) → get_or xs j Nothing ≡ Nothing

-- the states before and after signal k, which was read live or not
pub record Noted (l : SignalList) (type : ℕ) (live : Bool) (k : ℕ) (old new : List State) : Type 0 where
  pub long : length new ≡ length old
  pub each : (j : ℕ) → j < l.checks → get_or new j Nothing ≡ cond (under l type j k) (state_with (get_or old j Nothing) live) (get_or old j Nothing)

-- of the first k signals: whether any is under check j, and whether all that are were read live
abbrev pub state_of : SignalList → ℕ → List ℕ → ℕ → ℕ → State
state_of l type reasons k j = cond (all (λ i. not (under l type j i) || leb (get_or reasons i 0) 1) k) (cond (some (under l type j) k) Live Nothing) NotLive

pub record Stated (l : SignalList) (type : ℕ) (reasons : List ℕ) (k : ℕ) (states : List State) : Type 0 where
  pub long : length states ≡ l.checks
  pub each : (j : ℕ) → j < l.checks → get_or states j Nothing ≡ state_of l type reasons k j

-- the mark of a check in this state
abbrev pub mark_by : SignalList → List ℕ → State → ℕ → ℕ
mark_by l telegram Nothing j = error
mark_by l telegram Live j = field telegram (l.check j) mark_width
mark_by l telegram NotLive j = error

abbrev pub MarkedBy : SignalList → List ℕ → List State → List ℕ → Type 0
MarkedBy l telegram states marks = marks ≡ listed (λ j. mark_by l telegram (get_or states j Nothing) j) l.checks

-- the marks that are composed for a slot whose signals were read for these reasons
abbrev pub marks_from : SignalList → Slot → List ℕ → List ℕ
marks_from l slot reasons = listed (λ j. mark_by l slot.telegram (state_of l (relay_type slot) reasons l.signals j) j) l.checks

-- the paper's `relaying` under a list, of a vehicle of the store
abbrev pub relaying_slot : SignalList → Slot → ℕ → ℕ → Answer (List ℕ)
relaying_slot l slot now room = composing_by (relay_type slot) (relay_values l slot now) (relay_marks l slot now) room l
