use Rattle.jac_calendar_laws.proofs.CalendarOpens.{calendar, calendar_is}
use Rattle.jac_calendar_laws.proofs.laws.calendar_opens.Goals as goal

pub returns : goal.returns
returns c = (calendar, calendar_is)
