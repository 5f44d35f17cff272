use Rattle.gp_analyse.proofs.OneReport.{have_one_report}
use Rattle.gp_analyse.proofs.laws.have_one_report.Goals as goal

pub returns : goal.returns
returns c = have_one_report
