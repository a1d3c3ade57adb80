mod Names
pub mod Pieces
pub mod PlainNames
pub mod Reading
pub mod Steps
pub mod HandlesAgain
pub mod ValuesAgain
pub mod OpsAgain
pub mod Plain
pub mod LinesAgain
pub mod HeadsAgain
pub mod JournalsAgain
pub mod Taken
pub mod Splits
