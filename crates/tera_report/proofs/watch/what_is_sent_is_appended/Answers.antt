use Rattle.tera_report.proofs.SentLaws.{watched_appends}
use Rattle.tera_report.proofs.watch.what_is_sent_is_appended.Goals as goal

pub returns : goal.returns
returns g c = watched_appends g.W.Writer.contents g.W.Writer.wrote g.W.Writer.flushed
