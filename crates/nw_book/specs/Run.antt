-- Runs: many moves in order.
use Rattle.std.specs.Prelude.{◌≡◌, ◌<◌, ◌≤◌, List, [], ◌∷◌, ◌++◌, Option, Some, None, Err, length, take, slice_get}
use Rattle.nw_sig.specs.Signed.{Meaning}
use Rattle.nw_model.specs.declared.call.Call.TheVariants as calls
use Rattle.nw_model.specs.declared.reply.Reply.TheVariants as replies
use Rattle.nw_history.specs.Story.{Story}
use Rattle.nw_book.specs.Answer.{IsTicketFor, Takes}
use Rattle.nw_book.specs.Command.{call_of, committee_of}
use Rattle.nw_book.specs.Ticket.{TicketView, IsListOf}
use Rattle.nw_book.specs.Turn.{MatchesCommittee, IsRefusal, next_number}
use Rattle.nw_book.specs.declared.moves.Move.{Move}
use Rattle.nw_book.specs.declared.moves.Move.TheVariants as moves
use Rattle.nw_book.specs.declared.moves.Answer.{Answer}
use Rattle.nw_book.specs.declared.moves.Answer.TheVariants as gets
use Rattle.nw_book.specs.declared.moves.Cause.{Cause}
use Rattle.nw_book.specs.declared.moves.Cause.TheVariants as causes
use Rattle.nw_book.specs.declared.moves.Stop.{Stop}
use Rattle.nw_book.specs.declared.moves.Run.{Run}

-- the progress of a run: what its moves so far left
pub record Progress (S : Type 0) : Type 0 where
  -- the book's history
  pub history : Story
  -- the tickets that the run got, in order
  pub tickets : List TicketView
  -- the answers to the moves so far, in order
  pub answers : List (Answer S)

-- the move may get this answer, and leads from the old history and tickets to the new ones
abbrev pub AnswersMove : {S : Type 0} → Meaning → Progress S → Move S → Answer S → Progress S → Type 0
AnswersMove accepts old (moves.Call session command) (gets.Done done) new =
    Takes accepts old.history new.history session (next_number old.history session) (call_of command) done.event.reply done.front
    × MatchesCommittee old.history.committee (committee_of command) × (new.tickets ≡ old.tickets)
AnswersMove accepts old (moves.Open session d) (gets.Done done) new =
    Takes accepts old.history new.history session (next_number old.history session) (calls.Causal d) done.event.reply done.front
    × IsTicketFor d (Err done) × (new.tickets ≡ old.tickets)
AnswersMove accepts old (moves.Open session d) gets.Opened new =
    (t : TicketView) × Takes accepts old.history new.history session (next_number old.history session) (calls.Causal d) replies.Ready t.front
    × (t.digest ≡ d) × (new.tickets ≡ old.tickets ++ t ∷ [])
AnswersMove accepts old (moves.Walk ticket) (gets.Walked blocks) new =
    (t : TicketView) × (slice_get old.tickets ticket ≡ Some t) × IsListOf t blocks
    × (new.history ≡ old.history) × (new.tickets ≡ old.tickets)
AnswersMove accepts old m other new = ⊥

-- the move is made, and the run has one more answer
abbrev pub Makes : {S : Type 0} → Meaning → Progress S → Move S → Progress S → Type 0
Makes {S = S} accepts old m new = (answer : Answer S) × AnswersMove accepts old m answer new × (new.answers ≡ old.answers ++ answer ∷ [])

-- the moves are made one after the other
abbrev pub Runs : {S : Type 0} → Meaning → Progress S → List (Move S) → Progress S → Type 0
Runs accepts old [] new = new ≡ old
Runs {S = S} accepts old (m ∷ ms) new = (next : Progress S) × Makes accepts old m next × Runs accepts next ms new

-- why a move is refused: its step is refused; or there is no such ticket; or an allocation failed in a walk
abbrev pub IsStop : {S : Type 0} → Progress S → Move S → Cause → Type 0
IsStop now (moves.Call session command) (causes.NoStep why) =
    IsRefusal now.history session (next_number now.history session) (committee_of command) why
IsStop now (moves.Open session d) (causes.NoStep why) = IsRefusal now.history session (next_number now.history session) None why
IsStop now (moves.Walk ticket) causes.NoTicket = length now.tickets ≤ ticket
IsStop now (moves.Walk ticket) causes.NoMemory = ticket < length now.tickets
IsStop now m other = ⊥

-- all moves are made; or the moves before the stop are made, and the next is refused for this cause
abbrev pub Stops : {S : Type 0} → Meaning → Progress S → List (Move S) → Option Stop → Progress S → Type 0
Stops accepts old ms None new = Runs accepts old ms new
Stops {S = S} accepts old ms (Some stop) new =
    (m : Move S) × Runs accepts old (take stop.at ms) new × (slice_get ms stop.at ≡ Some m) × IsStop new m stop.cause

-- the run of the moves starts with the old history and no tickets, and ends with the new history
abbrev pub IsRun : {S : Type 0} → Meaning → Story → List (Move S) → Run S → Story → Type 0
IsRun accepts old ms run new =
    (given : List TicketView) × Stops accepts (record { history = old; tickets = []; answers = [] }) ms run.stop
    (record { history = new; tickets = given; answers = run.answers })
