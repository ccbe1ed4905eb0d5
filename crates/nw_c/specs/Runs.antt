-- Runs: their numbers, and sessions that end one or come to the present one.
use Rattle.std.specs.Prelude.{◌≡◌, ℕ}
use Rattle.nw_sig.specs.Signed.{Meaning}
use Rattle.nw_shared_store.specs.Session.{IsRenewed, IsRestarted}
use Rattle.nw_c.specs.declared.content.Content.{Content}
use Rattle.nw_c.specs.declared.content.Content.TheVariants as kind

-- it is a session of the run with this number
abbrev pub HasRun : Content → ℕ → Type 0
HasRun (kind.Session session) number = number ≡ session.run
HasRun other number = ⊥

-- the session ended its run, which has this last history. It is of the next run, whose base is the state after this history, and made no call
abbrev pub IsRunEnded : Meaning → Content → Content → Content → Type 0
IsRunEnded accepts (kind.Session old) (kind.Session new) (kind.History last) = IsRestarted accepts old new last
IsRunEnded accepts old new answer = ⊥

-- the session is of the present run: it saw the history of its run, or it has come to a later run, in which it made no call
abbrev pub IsOfPresentRun : Meaning → Content → Content → Type 0
IsOfPresentRun accepts (kind.Session old) (kind.Session new) = IsRenewed accepts old new
IsOfPresentRun accepts old new = ⊥
