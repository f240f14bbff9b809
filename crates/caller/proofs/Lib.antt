mod Answered
mod Records
mod Sheets
